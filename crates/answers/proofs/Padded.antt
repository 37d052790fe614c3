-- Nothing is lost where an answer is padded: its fields are the first of the four, and it has no more.
use Prim.Native.Nat.{ℕ, ◌≤◌}
use mathlib.Core.Path.{◌≡◌, refl, ap, ◌∙◌}
use mathlib.Core.List.{List, [], ◌∷◌}
use native.Mathlib.Omega.{arith}
use lib.ListN.{length, take, length-replicate}
use Rattle.layout.specs.declared.Reason.{Reason}
use Rattle.rules.specs.Answers.{Answer, Outcome, Gives}
use Rattle.answers.specs.Readings.{read}
use Rattle.answers.specs.FieldLaws.{FieldLaws}
use Rattle.answers.specs.Padded.{four, padded, answer_in, Settles}
use Rattle.answers.specs.declared.Numbers.{Numbers}
use Rattle.std.specs.Prelude.{Result, Ok, Err}

-- no more than four fields are the first of the four
fields_told : (values : List ℕ) → length values ≤ 4 → take (length values) (four values) ≡ values
fields_told [] few = refl
fields_told (w ∷ []) few = refl
fields_told (w ∷ (x ∷ [])) few = refl
fields_told (w ∷ (x ∷ (y ∷ []))) few = refl
fields_told (w ∷ (x ∷ (y ∷ (z ∷ [])))) few = refl
fields_told (w ∷ (x ∷ (y ∷ (z ∷ (v ∷ values))))) few = absurd (omega arith)

pub padded_told : (answer : Answer) → length answer.values ≤ 4 → answer_in (padded answer) ≡ answer
padded_told answer few = ap (λ (values : List ℕ). record { code = answer.code; values = values }) (fields_told answer.values few)

-- an answer has as many fields as its kind, a refusal too
pub read_count : {A : Type 0} {values : A → List ℕ} {count : ℕ} → FieldLaws values count → (answer : Result A Reason)
    → length (read values count answer).values ≡ count
read_count laws (Ok it) = laws.counted it
read_count {count = count} laws (Err why) = length-replicate count 0

-- so nothing is lost of any answer that keeps to the laws
pub read_told : {A : Type 0} {values : A → List ℕ} {count : ℕ} → FieldLaws values count → (answer : Result A Reason)
    → answer_in (padded (read values count answer)) ≡ read values count answer
read_told {values = values} {count = count} laws answer =
    padded_told (read values count answer) (omega (arith, read_count laws answer, laws.few))

-- a call gives an answer, and these are that answer's numbers
pub settled : {outcome : Outcome} {answer : Answer} {words : List ℕ} {numbers : Numbers} → Gives outcome answer words → numbers ≡ padded answer
    → Settles outcome numbers words
settled g e = record { answers = e ∙ ap padded g.answers; leaves = g.leaves }
