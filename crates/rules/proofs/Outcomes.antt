-- To give an outcome.
use mathlib.Core.Path.{◌≡◌, ◌∙◌}
use mathlib.Core.List.{List}
use Prim.Native.Nat.{ℕ}
use Rattle.rules.specs.Answers.{Answer, Outcome, Gives}

-- what gives an outcome still does, said otherwise
pub gives_as : {outcome : Outcome} {answer answer' : Answer} {words : List ℕ} → answer' ≡ answer → Gives outcome answer words
    → Gives outcome answer' words
gives_as e g = record { answers = e ∙ g.answers; leaves = g.leaves }
