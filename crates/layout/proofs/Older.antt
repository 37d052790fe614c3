-- Arenas of the boards that did not keep what was asked for: with a live chunk in it, such an arena is not sound.
use mathlib.Core.Path.{◌≡◌, refl, ap, ◌∙◌}
use mathlib.Core.Logic.{◌≢◌}
use mathlib.Core.Bool.{Bool, true, false, ◌&&◌, and-false}
use mathlib.Core.List.{List, [], ◌∷◌}
use Prim.Native.Nat.{ℕ, ◌+◌, ◌-◌, ◌≤◌}
use native.Mathlib.Omega.{arith}
use lib.Dec.{eqb}
use lib.ListN.{length, get_or}
use borrow.Author.Tests.{lt-leb, ne_eqb}
use Rattle.layout.specs.Numbers.{first_chunk, list_word, header_words, greatest_length, live_mark, lawful}
use Rattle.layout.specs.Chunks.{Chunk, free, live, size, total}
use Rattle.layout.specs.Walk.{Met, chunk, nothing, broken, with_chunk, is_whole, size_fits, header_fits, meet, walk_from, walked, sound}
use Rattle.layout.proofs.Bools.{lawful_bounds}
use Rattle.layout.proofs.Walking.{from_nothing, from_chunk}
use Rattle.layout.proofs.Holds.{Sizes}
use Rattle.layout.proofs.Round.{Told, at_end, at_live, at_free, at_none, told}

-- the second word that live chunks had
abbrev pub older_mark : ℕ
older_mark = 4294967295

-- the headers of `ks`, which begin at word `c`, as they stood then: sizes, and the mark of live chunks
abbrev pub OlderHeads : List ℕ → ℕ → List Chunk → Type 0
OlderHeads a c [] = Unit {0}
OlderHeads a c (free s ∷ ks) = (get_or a c 0 ≡ s) × OlderHeads a (c + s) ks
OlderHeads a c (live s asked ∷ ks) = (get_or a c 0 ≡ s) × (get_or a (c + 1) 0 ≡ older_mark) × OlderHeads a (c + s) ks

-- one of `ks` is live
abbrev pub SomeLive : List Chunk → Type 0
SomeLive [] = ⊥
SomeLive (free s ∷ ks) = SomeLive ks
SomeLive (live s asked ∷ ks) = Unit {0}

-- no chunk has room for what that mark would ask for
older_misfits : (a : List ℕ) (c : ℕ) → get_or a c 0 ≤ greatest_length → get_or a (c + 1) 0 ≡ older_mark → header_fits a c ≡ false
older_misfits a c small mark =
    rw (
      mark,
      lt-leb (older_mark - live_mark) (get_or a c 0 - header_words) (omega arith),
    )
    (and-false (size_fits (length a) c (get_or a c 0)))

older_met : (a : List ℕ) (c want : ℕ) (joined : Bool) → c ≢ length a → header_fits a c ≡ false → meet a c want joined ≡ nothing
unfolding meet
older_met a c want joined inside misfits = rw (ne_eqb c (length a) inside, misfits)

-- so the walk breaks, wherever the links want the next free chunk
older_breaks : (ks : List Chunk) (a : List ℕ) (c want : ℕ) (joined : Bool) → OlderHeads a c ks → Sizes ks → c + total ks ≡ length a
    → length a ≤ greatest_length → SomeLive ks → walk_from a c want joined ≡ broken
older_breaks [] a c want joined heads sizes fills most some = absurd some
older_breaks (live s asked ∷ ks) a c want joined heads sizes fills most some =
    from_nothing a c want joined
    (older_met a c want joined (omega (arith, sizes.1)) (older_misfits a c (omega (arith, heads.0)) heads.1))
older_breaks (free s ∷ ks) a c want joined heads sizes fills most some =
    go (told a c want joined) refl (λ w j. older_breaks ks a (c + s) w j heads.1 sizes.2 (omega arith) most some)
  where
    -- whatever the walk takes the chunk for, it goes on behind it
    behind : (k : Chunk) → size k ≡ get_or a c 0 → (w : ℕ) (j : Bool) → meet a c want joined ≡ chunk k w j
        → ((w : ℕ) (j : Bool) → walk_from a (c + s) w j ≡ broken) → walk_from a c want joined ≡ broken
    behind k is w j e rest =
        let same : c + size k ≡ c + s = omega (arith, is, heads.0) in
        let breaks : walk_from a (c + size k) w j ≡ broken = rw same (rest w j) in
        from_chunk a c want joined k w j e ∙ ap (with_chunk k) breaks

    go : {m : Met} → Told a c want joined m → meet a c want joined ≡ m → ((w : ℕ) (j : Bool) → walk_from a (c + s) w j ≡ broken)
        → walk_from a c want joined ≡ broken
    go (at_end p q) e rest = absurd (omega (arith, sizes.1))
    go (at_live f l) e rest = behind _ refl _ _ e rest
    go (at_free f j l) e rest = behind _ refl _ _ e rest
    go at_none e rest = from_nothing a c want joined e

-- an arena with such headers, one of them of a live chunk, is not sound
pub older_damaged : (a : List ℕ) (ks : List Chunk) → OlderHeads a first_chunk ks → Sizes ks → first_chunk + total ks ≡ length a → SomeLive ks
    → sound a ≡ false
unfolding sound walked
older_damaged a ks heads sizes fills some = go (lawful (length a)) refl
  where
    go : (l : Bool) → lawful (length a) ≡ l → (l && (eqb (get_or a 0 0) (length a) && is_whole (walked a))) ≡ false
    go false e = refl
    go true e =
        let breaks = older_breaks ks a first_chunk (get_or a list_word 0) false heads sizes fills (lawful_bounds (length a) e).2 some in
        rw breaks (and-false (eqb (get_or a 0 0) (length a)))
