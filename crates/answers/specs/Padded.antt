-- An answer as a number of numbers that is always the same. No public contract of a call cites this file.
use Rattle.std.specs.Prelude.{ℕ, ◌≡◌, List, [], ◌∷◌, length, get_or, take}
use Rattle.layout.specs.Reasons.{number}
use Rattle.layout.specs.declared.Reason.{Reason}
use Rattle.rules.specs.Answers.{Answer, Outcome}
use Rattle.answers.specs.declared.Numbers.{Numbers}

-- four fields, of which those that there are not are 0
abbrev pub four : List ℕ → List ℕ
four values = get_or values 0 0 ∷ get_or values 1 0 ∷ get_or values 2 0 ∷ get_or values 3 0 ∷ []

abbrev pub padded : Answer → Numbers
padded answer = record { code = answer.code; count = length answer.values; fields = four answer.values }

-- the same of a refusal that has `count` fields
abbrev pub padded_refusal : ℕ → Reason → Numbers
padded_refusal count why = record { code = number why; count = count; fields = 0 ∷ 0 ∷ 0 ∷ 0 ∷ [] }

-- the promise of a call whose answer is handed on in numbers: those of the outcome, and its words
pub record Settles (outcome : Outcome) (numbers : Numbers) (words : List ℕ) : Type 0 where
  pub answers : numbers ≡ padded outcome.answer
  pub leaves : words ≡ outcome.words

-- the answer that numbers stand for
abbrev pub answer_in : Numbers → Answer
answer_in numbers = record { code = numbers.code; values = take numbers.count numbers.fields }
