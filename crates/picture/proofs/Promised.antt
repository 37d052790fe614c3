-- The promise of a writing, said otherwise; and that it leaves no choice.
use mathlib.Core.Path.{◌≡◌, sym, ◌∙◌}
use mathlib.Core.List.{List}
use Prim.Native.Nat.{ℕ}
use Rattle.rules.specs.Answers.{Answer}
use Rattle.rules.specs.Calls.{write_on}
use Rattle.rules.proofs.Outcomes.{gives_as}
use Rattle.answers.specs.Readings.{Written, written_numbers}
use Rattle.answers.specs.Determined.{Determined}
use Rattle.answers.proofs.Determined.{written_determined}
use Rattle.picture.specs.Writing.{Writes}

-- what meets the promise still does, said otherwise
pub writes_as : {a text after : List ℕ} {answer answer' : Answer} → answer' ≡ answer → Writes a text answer after → Writes a text answer' after
writes_as e w = record { gives = gives_as e w.gives; fills = w.fills }

-- any two results, read in numbers, and the texts left with each, that meet it are the same
pub writes_determined : {A : Type 0} (numbers : A → Answer) (a text : List ℕ) → Determined numbers (write_on a text)
    → (r r' : A) (after after' : List ℕ) → Writes a text (numbers r) after → Writes a text (numbers r') after' → (r ≡ r') × (after ≡ after')
writes_determined numbers a text determined r r' after after' w w' = (
  (determined r r' a a w.gives w'.gives).0,
  w.fills ∙ sym w'.fills,
)

-- so of the call
pub write_determined : (a text : List ℕ) (r r' : Written) (after after' : List ℕ) → Writes a text (written_numbers r) after
    → Writes a text (written_numbers r') after' → (r ≡ r') × (after ≡ after')
write_determined a text = writes_determined written_numbers a text (written_determined (write_on a text))
