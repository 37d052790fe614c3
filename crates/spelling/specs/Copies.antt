-- Words that are copied.
use Rattle.std.specs.Prelude.{ℕ, ◌≡◌, List, length, take}

-- the list `l` begins with these words, of which there are `count`
pub record Begins (l : List ℕ) (count : ℕ) (words : List ℕ) : Type 0 where
  pub counts : count ≡ length words
  pub holds : take count l ≡ words
