-- What the writing of a picture promises.
use Rattle.std.specs.Prelude.{ℕ, ◌≡◌, List}
use Rattle.rules.specs.Answers.{Answer, Gives}
use Rattle.rules.specs.Calls.{write_on, text_after}

-- the call answers as its outcome says and leaves the words `a` as they are; the lent text is `after` afterwards
pub record Writes (a text : List ℕ) (answer : Answer) (after : List ℕ) : Type 0 where
  pub gives : Gives (write_on a text) answer a
  pub fills : after ≡ text_after a text
