-- The word that names the next free chunk, once a gap was cut.
use Rattle.std.specs.Prelude.{ℕ, ◌+◌, cond, eqb}

-- the word that names the first free chunk after a block, once `new` was made of the free chunk at `gap`, which word
-- `gap_link` named
unfoldable pub link_after : ℕ → ℕ → ℕ → ℕ → ℕ
link_after link gap_link gap new = cond (eqb gap new) (cond (eqb (gap + 1) link) gap_link link) link
