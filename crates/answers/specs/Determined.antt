-- A contract leaves no choice.
use Rattle.std.specs.Prelude.{ℕ, ◌≡◌, List}
use Rattle.rules.specs.Answers.{Answer, Outcome, Gives}

-- any two results, read in numbers, and the words left with each, that give the outcome are the same
abbrev pub Determined : {A : Type 0} → (A → Answer) → Outcome → Type 0
Determined {A} numbers outcome =
    (r r' : A) (after after' : List ℕ) → Gives outcome (numbers r) after → Gives outcome (numbers r') after' → (r ≡ r') × (after ≡ after')
