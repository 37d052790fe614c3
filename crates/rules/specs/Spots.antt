-- Where a chunk stands among the others, and which chunk is meant.
use Rattle.std.specs.Prelude.{ℕ, ◌+◌, List, [], ◌∷◌, Bool, false, cond, eqb}
use Rattle.layout.specs.Numbers.{first_chunk, header_words}
use Rattle.layout.specs.Chunks.{Chunk, free, live, size, total}

-- a chunk in its place: the chunks before it, itself, the chunks after it
pub data Spot : Type 0 where
  nowhere : Spot
  at : List Chunk → Chunk → List Chunk → Spot

-- the same spot with one chunk more before it
abbrev pub behind : Chunk → Spot → Spot
behind k nowhere = nowhere
behind k (at pre l post) = at (k ∷ pre) l post

-- the word where the chunk at a spot starts, 0 for nowhere
abbrev pub start_of : Spot → ℕ
start_of nowhere = 0
start_of (at pre k post) = first_chunk + total pre

-- the lowest of `ks`, which begin at word `c`, that passes a test of its start and itself
unfoldable pub lowest : (ℕ → Chunk → Bool) → ℕ → List Chunk → Spot
lowest test c [] = nowhere
lowest test c (k ∷ ks) = cond (test c k) (at [] k ks) (behind k (lowest test (c + size k) ks))

-- a chunk is block `b`: it is live, and its header ends at `b`
abbrev pub is_block : ℕ → ℕ → Chunk → Bool
is_block b c (free s) = false
is_block b c (live s asked) = eqb (c + header_words) b

-- the live chunk that block number `b` names
abbrev pub held : ℕ → List Chunk → Spot
held b ks = lowest (is_block b) first_chunk ks
