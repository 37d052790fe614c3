-- What every call does, whichever it is.
use Rattle.std.specs.Prelude.{ℕ, ◌≡◌, ◌≢◌, ◌↔◌, true, List, length, replicate}
use Rattle.layout.specs.Walk.{sound}
use Rattle.layout.specs.Reasons.{number}
use Rattle.layout.specs.declared.Reason.{Reason}
use Rattle.rules.specs.Answers.{Outcome}

-- a call with so many fields, on the words `a`: it gives each reason exactly when what the reason says of it is so, and
-- is done exactly when none is; refused, it changes nothing and its fields are 0; it keeps the number of words, and a
-- sound arena sound
pub record Behaves (fields : ℕ) (a : List ℕ) (Refused : Reason → Type 0) (outcome : Outcome) : Type 0 where
  pub refused : (why : Reason) → (outcome.answer.code ≡ number why) ↔ Refused why
  pub done : (outcome.answer.code ≡ 0) ↔ ((why : Reason) → Refused why → ⊥)
  pub unchanged : outcome.answer.code ≢ 0 → outcome.words ≡ a
  pub zeros : outcome.answer.code ≢ 0 → outcome.answer.values ≡ replicate fields 0
  pub same_length : length outcome.words ≡ length a
  pub still_sound : sound a ≡ true → sound outcome.words ≡ true
