-- The promise of a view: which words it hands back, and where they lie.
use Rattle.std.specs.Prelude.{ℕ, ◌+◌, ◌*◌, ◌≡◌, List, cond, eqb}
use Rattle.rules.specs.Calls.{size_on, view_on}

-- the word at which the part begins: `b`, or 0 where there are no words to hand back
unfoldable pub view_from : List ℕ → ℕ → ℕ
view_from a b = cond (eqb (size_on a b).answer.code 0) b 0

-- the place of word `i`, where `place` is that of word 0. A place is an object of memory and a byte in it; a word has
-- four bytes
abbrev pub word_at : ℕ × ℕ → ℕ → ℕ × ℕ
word_at place i = (place.0, i * 4 + place.1)

-- a view of the words `a`, which lie at `place`: the part that is handed back holds the block's words, and lies where
-- the block does
pub record Views (a : List ℕ) (place : ℕ × ℕ) (b : ℕ) (part : List ℕ) (lies : ℕ × ℕ) : Type 0 where
  pub holds : part ≡ view_on a b
  pub stands : lies ≡ word_at place (view_from a b)
