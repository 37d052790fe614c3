-- What the check says of bytes.
use Prim.Native.Nat.{ℕ, ◌/◌, ◌%◌}
use mathlib.Core.Path.{◌≡◌, refl, sym, ap, ◌∙◌}
use mathlib.Core.Logic.{◌≢◌}
use mathlib.Core.Bool.{Bool, true, false, cond}
use mathlib.Core.List.{List}
use lib.ListN.{length}
use lib.Dec.{eqb}
use borrow.Author.Tests.{eq-eqb, ne_eqb, eqb-true, eqb-false}
use Rattle.layout.specs.Numbers.{lawful}
use Rattle.layout.specs.Walk.{sound}
use Rattle.layout.specs.Reasons.{arena_gate}
use Rattle.layout.specs.Reasons.{Gate}
use Rattle.std.specs.Prelude.{Err}
use Rattle.layout.specs.declared.Reason.TheVariants.{Length}
use Rattle.rules.proofs.Gates.{Checked, unlawful, damaged, whole, checked, unlawful_gate}
use Rattle.spelling.specs.Words.{words_of}
use Rattle.spelling.proofs.Words.{words_spelled}
use Rattle.desk.specs.Checks.{gate_number, bytes_gate}

module _ (bytes : List ℕ) where
  pub bytes_over : length bytes % 4 ≢ 0 → bytes_gate bytes ≡ Err Length
  unfolding bytes_gate
  bytes_over n = rw (ne_eqb _ _ n)

  pub whole_words : length bytes % 4 ≡ 0 → bytes_gate bytes ≡ arena_gate (words_of bytes)
  unfolding bytes_gate
  whole_words e = rw (eq-eqb _ _ e)

  pub unlawful_words : length bytes % 4 ≡ 0 → lawful (length bytes / 4) ≡ false → bytes_gate bytes ≡ Err Length
  unlawful_words e l = whole_words e ∙ unlawful_gate (words_of bytes) (ap lawful (words_spelled bytes) ∙ l)

  -- ---- 0, 1 or 2, and what each says

  pub data Told : ℕ → Type 0 where
    is_sound : length bytes % 4 ≡ 0 → sound (words_of bytes) ≡ true → Told 0
    is_cut : length bytes % 4 ≢ 0 → Told 1
    is_unlawful : length bytes % 4 ≡ 0 → lawful (length bytes / 4) ≡ false → Told 1
    is_damaged : length bytes % 4 ≡ 0 → lawful (length bytes / 4) ≡ true → sound (words_of bytes) ≡ false → Told 2

  pub check_told : Told (gate_number (bytes_gate bytes))
  unfolding bytes_gate
  check_told = go (eqb (length bytes % 4) 0) refl (checked (words_of bytes))
    where
      go : (fours : Bool) → eqb (length bytes % 4) 0 ≡ fours → {gate : Gate} → Checked (words_of bytes) gate
          → Told (gate_number (cond fours gate (Err Length)))
      go false e c = is_cut (eqb-false _ _ e)
      go true e (unlawful l) = is_unlawful (eqb-true _ _ e) (ap lawful (sym (words_spelled bytes)) ∙ l)
      go true e (damaged l d) = is_damaged (eqb-true _ _ e) (ap lawful (sym (words_spelled bytes)) ∙ l) d
      go true e (whole d) = is_sound (eqb-true _ _ e) d

-- what each end of the check has to show
pub ruleset reasons = (bytes_over, whole_words, unlawful_words)
