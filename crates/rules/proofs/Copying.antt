-- What copying changes: the words that are copied to, and no others.
use mathlib.Core.Path.{◌≡◌, refl, ◌∙◌}
use mathlib.Core.Logic.{◌≢◌, ◌⊎◌, inl, inr, ⊎_elim}
use mathlib.Core.Bool.{Bool, true, false}
use mathlib.Core.List.{List}
use Prim.Native.Nat.{ℕ, zero, suc, ◌+◌, ◌≤◌, ◌<◌}
use native.Mathlib.Omega.{arith}
use lib.Dec.{eqb}
use lib.ListN.{length, get_or, set, length-set}
use lib.Seq.{get_or-set_same, get_or-set_other}
use borrow.Author.Tests.{eqb-true, eqb-false}
use Rattle.rules.specs.Rules.{copied}

module _ (from to : ℕ) (a : List ℕ) where
  pub length_copied : (k : ℕ) → length (copied from to k a) ≡ length a
  unfolding copied
  length_copied zero = refl
  length_copied (suc k) = simp length-set (length_copied k)

  -- a word before or behind those copied to
  pub copied_other : (k i : ℕ) → (i < to) ⊎ (to + k ≤ i) → get_or (copied from to k a) i 0 ≡ get_or a i 0
  unfolding copied
  copied_other zero i o = refl
  copied_other (suc k) i o =
      let n : i ≢ to + k = ⊎_elim (λ h. omega arith) (λ h. omega arith) o in
      let p : (i < to) ⊎ (to + k ≤ i) = ⊎_elim (λ h. inl h) (λ h. inr (omega arith)) o in
      get_or-set_other (copied from to k a) (to + k) i _ 0 n ∙ copied_other k i p

  -- the words copied to
  pub copied_there : (k j : ℕ) → j < k → to + k ≤ length a → get_or (copied from to k a) (to + j) 0 ≡ get_or a (from + j) 0
  unfolding copied
  copied_there zero j h f = absurd (omega arith)
  copied_there (suc k) j h f = go (eqb j k) refl (λ l. copied_there k j l (omega arith))
    where
      go : (b : Bool) → eqb j k ≡ b → (j < k → get_or (copied from to k a) (to + j) 0 ≡ get_or a (from + j) 0)
          → get_or (set (copied from to k a) (to + k) (get_or a (from + k) 0)) (to + j) 0 ≡ get_or a (from + j) 0
      go true e r =
          rw (eqb-true j k e) (get_or-set_same (copied from to k a) (to + k) _ 0 (rw length_copied (omega arith)))
      go false e r =
          let n : j ≢ k = eqb-false j k e in
          get_or-set_other (copied from to k a) (to + k) (to + j) _ 0 (omega arith) ∙ r (omega arith)
