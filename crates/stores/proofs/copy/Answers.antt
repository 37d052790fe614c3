-- `stores::copy` meets its contract: word by word, what std's `copy_within` leaves is what `copied` says.
use Rattle.std.proofs.Common.{ℕ, ◌+◌, ◌-◌, ◌≡◌, ◌≤◌, List, length, get_or, ◌∙◌, sym, refl, arith, inl, inr, Bool, true, false}
use Rattle.std.proofs.lemmas.List.{ext_get_or}
use Rattle.std.specs.List.{CopiedTo, SameBelow, SameFrom}
use lib.Dec.{ltb}
use borrow.Author.Tests.{ltb-true, ltb-false}
use Rattle.rules.specs.Rules.{copied}
use Rattle.rules.proofs.Copying.{length_copied, copied_other, copied_there}
use Rattle.stores.proofs.copy.Goals as goal

copied_within : (from to count : ℕ) (a b : List ℕ) → to + count ≤ length a → length b ≡ length a
    → CopiedTo a b from to count × SameBelow a b to × SameFrom a b (to + count) → b ≡ copied from to count a
copied_within from to count a b fits same (there, below, behind) =
    ext_get_or 0 b _ (same ∙ sym (length_copied from to a count)) (λ i _. word i (ltb i to) refl (ltb i (to + count)) refl)
  where
    word : (i : ℕ) (low : Bool) → ltb i to ≡ low → (inside : Bool) → ltb i (to + count) ≡ inside
        → get_or b i 0 ≡ get_or (copied from to count a) i 0
    word i true e _ _ = let l = ltb-true i to e in below i 0 l ∙ sym (copied_other from to a count i (inl l))
    word i false e false q = let l = ltb-false i (to + count) q in behind i 0 l ∙ sym (copied_other from to a count i (inr l))
    word i false e true q =
        let l = ltb-false i to e in
        let h = ltb-true i (to + count) q in
        let at : to + (i - to) ≡ i = omega arith in
        there i 0 l h ∙ sym (rw at at (copied_there from to a count (i - to) (omega arith) fits))

pub returns : goal.returns
returns c =
    let all : c.args.from + c.args.count - c.args.from ≡ c.args.count = omega arith in
    copied_within _ _ _ _ _ c.requires.1 c.copy_within.ensures.len (rw all at c.copy_within.ensures.by_index)
