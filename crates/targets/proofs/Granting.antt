-- What a call answers: a reason that `?` hands on; and, of a call that grants, a way of the rules that was followed.
use mathlib.Core.Path.{◌≡◌, refl}
use mathlib.Core.List.{List}
use Prim.Native.Nat.{ℕ}
use Rattle.std.specs.Prelude.{Option, Result, Ok, Err, IsErrAnd, ok_or}
use Rattle.layout.specs.declared.Reason.{Reason}
use Rattle.rules.specs.Answers.{Outcome, refusal, settle, Gives}
use Rattle.rules.specs.Rules.{Way, shut, grants}
use Rattle.rules.specs.Calls.{granted}
use Rattle.answers.specs.Readings.{read, granted_numbers}
use Rattle.answers.specs.declared.Grant.{Grant}
use Rattle.ways.specs.Ways.{Follows}

pub handed_on : {A : Type 0} (values : A → List ℕ) (count : ℕ) (answer : Result A Reason) (why : Reason) {outcome : Outcome} {words : List ℕ}
    → IsErrAnd answer (λ r. r ≡ why) → Gives outcome (refusal count why) words → Gives outcome (read values count answer) words
handed_on values count (Ok it) why is g = absurd is
handed_on values count (Err r) why is g = rw is g

pub way_gives : (why : Reason) (way : Way) (a : List ℕ) (answer : Option Grant) (after : List ℕ) → Follows way a answer after
    → Gives (settle 2 a (granted why way)) (granted_numbers (ok_or answer why)) after
way_gives why shut a answer after f = rw (f.answers, f.leaves) (record { answers = refl; leaves = refl })
way_gives why (grants block words left) a answer after f = rw (f.answers, f.leaves) (record { answers = refl; leaves = refl })
