-- The laws of the check walk.
use Prim.Native.Nat.{ℕ, zero, suc, ◌+◌, ◌-◌, ◌%◌, ◌≤◌}
use mathlib.Core.Path.{◌≡◌, refl, ap}
use mathlib.Core.List.{List, []}
use mathlib.Core.Bool.{Bool, true, false, cond, ◌&&◌}
use native.Mathlib.Omega.{arith}
use lib.ListN.{length, get_or}
use lib.Dec.{leb, eqb}
use borrow.Author.Tests.{leb-true}
use Rattle.layout.specs.Numbers.{least_size}
use Rattle.layout.specs.Chunks.{Chunk, free, live, size}
use Rattle.layout.specs.Walk.{Met, end, chunk, nothing, broken, whole, with_chunk, size_fits, is_live, asked_in, second_fits, header_fits}
use Rattle.layout.specs.Walk.{meet, walk, walk_from}
use Rattle.layout.proofs.Bools.{both}

-- a size that fits
pub fits_bounds : (n c x : ℕ) → size_fits n c x ≡ true → (least_size ≤ x) × (x ≤ n - c)
fits_bounds n c x e =
    let r = both (leb least_size x) (leb x (n - c)) (both (eqb (x % 2) 0) (leb least_size x && leb x (n - c)) e).1 in
    (leb-true least_size x r.0, leb-true x (n - c) r.1)

-- in a header that fits
pub header_size : (a : List ℕ) (c : ℕ) → header_fits a c ≡ true → size_fits (length a) c (get_or a c 0) ≡ true
header_size a c e = (both (size_fits (length a) c (get_or a c 0)) (second_fits (get_or a c 0) (get_or a (c + 1) 0)) e).0

-- a chunk that the walk meets has at least 4 words, and ends within the arena
met_parts : (b₁ b₂ b₃ b₄ b₅ j : Bool) (s n v w w' : ℕ) (j' : Bool) (k : Chunk)
    → cond b₁ (cond b₂ end nothing) (cond b₃ (cond b₄ (chunk (live s n) w false) (cond j nothing (cond b₅ (chunk (free s) v true) nothing))) nothing)
    ≡ chunk k w' j' → (b₃ ≡ true) × (size k ≡ s)
met_parts true true b₃ b₄ b₅ j s n v w w' j' k e = (cc, cc)
met_parts true false b₃ b₄ b₅ j s n v w w' j' k e = (cc, cc)
met_parts false b₂ false b₄ b₅ j s n v w w' j' k e = (cc, cc)
met_parts false b₂ true true b₅ j s n v w w' j' k e = (refl, cc)
met_parts false b₂ true false b₅ true s n v w w' j' k e = (cc, cc)
met_parts false b₂ true false true false s n v w w' j' k e = (refl, cc)
met_parts false b₂ true false false false s n v w w' j' k e = (cc, cc)

met_bounds : (a : List ℕ) (c w : ℕ) (j : Bool) (k : Chunk) (w' : ℕ) (j' : Bool) → meet a c w j ≡ chunk k w' j'
    → (least_size ≤ size k) × (size k ≤ length a - c)
unfolding meet
met_bounds a c w j k w' j' e =
    let p = met_parts (eqb c (length a)) (eqb w 0) (header_fits a c) (is_live (get_or a (c + 1) 0)) (eqb w c) j (get_or a c 0) (asked_in (get_or a (c + 1) 0))
    (get_or a (c + 1) 0) w w' j' k e in
    let b = fits_bounds (length a) c (get_or a c 0) (header_size a c p.0) in
    (omega (arith, p.1, b.0), omega (arith, p.1, b.1))

-- enough fuel is as good as any
fuel : (f g : ℕ) (a : List ℕ) (c w : ℕ) (j : Bool) → length a - c ≤ f → length a - c ≤ g → walk f a c w j ≡ walk g a c w j
unfolding walk
fuel zero zero a c w j hf hg = refl
fuel zero (suc g) a c w j hf hg = go (meet a c w j) refl
  where
    go : (m : Met) → meet a c w j ≡ m → walk zero a c w j ≡ walk (suc g) a c w j
    go end e = rw (e, walk)
    go nothing e = rw (e, walk)
    go (chunk k w' j') e = let b = met_bounds a c w j k w' j' e in let z : ⊥ = omega arith in absurd z
fuel (suc f) zero a c w j hf hg = go (meet a c w j) refl
  where
    go : (m : Met) → meet a c w j ≡ m → walk (suc f) a c w j ≡ walk zero a c w j
    go end e = rw (e, walk)
    go nothing e = rw (e, walk)
    go (chunk k w' j') e = let b = met_bounds a c w j k w' j' e in let z : ⊥ = omega arith in absurd z
fuel (suc f) (suc g) a c w j hf hg = go (meet a c w j) refl (λ s w' j'. fuel f g a (c + s) w' j')
  where
    go : (m : Met) → meet a c w j ≡ m
        → ((s w' : ℕ) (j' : Bool) → length a - (c + s) ≤ f → length a - (c + s) ≤ g → walk f a (c + s) w' j' ≡ walk g a (c + s) w' j')
        → walk (suc f) a c w j ≡ walk (suc g) a c w j
    go end e r = rw (e, walk)
    go nothing e r = rw (e, walk)
    go (chunk k w' j') e r = let b = met_bounds a c w j k w' j' e in rw (e, walk) (ap (with_chunk k) (r (size k) w' j' (omega arith) (omega arith)))

-- what the walk makes of what it meets
pub from_end : (a : List ℕ) (c w : ℕ) (j : Bool) → meet a c w j ≡ end → walk_from a c w j ≡ whole []
unfolding walk walk_from
from_end a c w j e = go (length a - c)
  where
    go : (f : ℕ) → walk f a c w j ≡ whole []
    go zero = rw (e, walk)
    go (suc f) = rw (e, walk)

pub from_nothing : (a : List ℕ) (c w : ℕ) (j : Bool) → meet a c w j ≡ nothing → walk_from a c w j ≡ broken
unfolding walk walk_from
from_nothing a c w j e = go (length a - c)
  where
    go : (f : ℕ) → walk f a c w j ≡ broken
    go zero = rw (e, walk)
    go (suc f) = rw (e, walk)

pub from_chunk : (a : List ℕ) (c w : ℕ) (j : Bool) (k : Chunk) (w' : ℕ) (j' : Bool) → meet a c w j ≡ chunk k w' j'
    → walk_from a c w j ≡ with_chunk k (walk_from a (c + size k) w' j')
unfolding walk walk_from
from_chunk a c w j k w' j' e = go (length a - c) refl
  where
    b : (least_size ≤ size k) × (size k ≤ length a - c)
    b = met_bounds a c w j k w' j' e

    go : (f : ℕ) → length a - c ≡ f → walk f a c w j ≡ with_chunk k (walk (length a - (c + size k)) a (c + size k) w' j')
    go zero q = let z : ⊥ = omega (arith, b) in absurd z
    go (suc f) q = rw (e, walk) (ap (with_chunk k) (fuel f (length a - (c + size k)) a (c + size k) w' j' (omega (arith, b)) (omega arith)))
