-- What the walk makes of a place, by the tests that the code makes there.
use Prim.Native.Nat.{ℕ, ◌+◌, ◌-◌, ◌≤◌}
use mathlib.Core.Path.{◌≡◌, refl, sym, ◌∙◌}
use mathlib.Core.List.{List}
use mathlib.Core.Bool.{Bool, true, false, cond}
use native.Mathlib.Omega.{arith}
use lib.ListN.{length, get_or}
use lib.Dec.{eqb}
use borrow.Author.Tests.{eq-eqb, ne_eqb}
use Rattle.std.specs.Prelude.{Some, None}
use Rattle.std.proofs.lemmas.Option.{cond_some}
use Rattle.layout.specs.Numbers.{least_size}
use Rattle.layout.specs.Chunks.{Chunk, free, live}
use Rattle.layout.specs.Walk.{chunk, nothing, Walked, broken, whole, with_chunk, is_live, asked_in, header_fits, meet, walk_from}
use Rattle.layout.proofs.Walking.{fits_bounds, header_size, from_end, from_nothing, from_chunk}
use Rattle.walk.specs.Steps.{size_at, met_by}

-- how many chunks the walk has met, by the tests that the code makes
met_with : (met : ℕ) (k : Chunk) (r : Walked) → met_by met (with_chunk k r) ≡ met_by (met + 1) r
met_with met k broken = refl
met_with met k (whole ks) = grind arith

pub at_end : (a : List ℕ) (c w : ℕ) (j : Bool) (met : ℕ) → c ≡ length a → met_by met (walk_from a c w j) ≡ cond (eqb w 0) (Some met) None
unfolding meet
at_end a c w j met h = go (eqb w 0) refl
  where
    go : (b : Bool) → eqb w 0 ≡ b → met_by met (walk_from a c w j) ≡ cond b (Some met) None
    go true e = rw (from_end a c w j (simp (eq-eqb _ _ h, e))) (grind arith)
    go false e = rw (from_nothing a c w j (simp (eq-eqb _ _ h, e)))

-- no chunk stands at word `c`
no_fit : (a : List ℕ) (c : ℕ) → None ≡ size_at a c → header_fits a c ≡ false
unfolding size_at
no_fit a c e = go (header_fits a c) e
  where
    go : (b : Bool) → None ≡ cond b (Some (get_or a c 0)) None → b ≡ false
    go true q = cc
    go false q = refl

pub no_size : (a : List ℕ) (c w : ℕ) (j : Bool) (met : ℕ) → (c ≡ length a → ⊥) → None ≡ size_at a c → met_by met (walk_from a c w j) ≡ None
unfolding meet
no_size a c w j met h e = rw (from_nothing a c w j (simp (ne_eqb _ _ h, no_fit a c e)))

module _ (a : List ℕ) (c s : ℕ) (e : Some s ≡ size_at a c) where
  a_fit : (header_fits a c ≡ true) × (s ≡ get_or a c 0)
  unfolding size_at
  a_fit =
      let p = cond_some (header_fits a c) (get_or a c 0) s (sym e) in (p.0, sym p.1)

  -- a header that fits has at least 4 words, and ends within the arena
  pub size_bounds : (least_size ≤ s) × (s ≤ length a - c)
  size_bounds = rw a_fit.1 (fits_bounds (length a) c (get_or a c 0) (header_size a c a_fit.0))

  module _ (w : ℕ) where
    -- at a size that fits, only the second word and the links decide
    met_sized : (j : Bool) → meet a c w j ≡ cond (is_live (get_or a (c + 1) 0)) (chunk (live s (asked_in (get_or a (c + 1) 0))) w false)
        (cond j nothing (cond (eqb w c) (chunk (free s) (get_or a (c + 1) 0) true) nothing))
    unfolding meet
    met_sized j =
        let b = size_bounds in
        let n : c ≡ length a → ⊥ = omega arith in
        simp (ne_eqb _ _ n, a_fit.0, a_fit.1)

    module _ (met : ℕ) where
      pub on_live : (j : Bool) → is_live (get_or a (c + 1) 0) ≡ true → met_by met (walk_from a c w j) ≡ met_by (met + 1) (walk_from a (c + s) w false)
      on_live j m =
          rw (from_chunk a c w j (live s (asked_in (get_or a (c + 1) 0))) w false (met_sized j ∙ simp m), met_with)

      pub on_free : is_live (get_or a (c + 1) 0) ≡ false → w ≡ c
          → met_by met (walk_from a c w false) ≡ met_by (met + 1) (walk_from a (c + s) (get_or a (c + 1) 0) true)
      on_free m l =
          rw (from_chunk a c w false (free s) (get_or a (c + 1) 0) true (met_sized false ∙ simp (m, eq-eqb _ _ l)), met_with)

      pub off_link : is_live (get_or a (c + 1) 0) ≡ false → (w ≡ c → ⊥) → met_by met (walk_from a c w false) ≡ None
      off_link m l = rw (from_nothing a c w false (met_sized false ∙ simp (m, ne_eqb _ _ l)))

      pub two_free : is_live (get_or a (c + 1) 0) ≡ false → met_by met (walk_from a c w true) ≡ None
      two_free m = rw (from_nothing a c w true (met_sized true ∙ simp m))

-- what `after_free` cites
pub ruleset place_laws = (size_bounds, at_end, no_size, on_live, two_free)
