-- Where a chunk stands among the others, and what that makes of it: a block, or a gap.
use Rattle.std.specs.Prelude.{ℕ, ◌+◌, ◌≤◌, ◌≡◌, List, ◌∷◌, ◌++◌}
use Rattle.layout.specs.Numbers.{first_chunk, header_words}
use Rattle.layout.specs.Chunks.{Chunk, free, live, total}
use Rattle.layout.specs.Walk.{chunks_of}

-- of the chunks `ks`, `k` stands between `pre` and `post`, and its header ends at word `b`
pub record Stands (ks pre : List Chunk) (k : Chunk) (post : List Chunk) (b : ℕ) : Type 0 where
  pub same : ks ≡ pre ++ k ∷ post
  pub number_is : first_chunk + total pre + header_words ≡ b

-- `b` is a block's number: that of the live chunk of `s` words between `pre` and `post`
abbrev pub SomeBlock : List ℕ → ℕ → Type 0
SomeBlock a b = (pre : List Chunk) × (s : ℕ) × (asked : ℕ) × (post : List Chunk) × Stands (chunks_of a) pre (live s asked) post b

-- `b` is no block's number
abbrev pub NoBlock : List ℕ → ℕ → Type 0
NoBlock a b = SomeBlock a b → ⊥

-- of the chunks `ks`, a free one of `s` words, which have the need, stands between `pre` and `post`
abbrev pub GapIn : List Chunk → ℕ → List Chunk → ℕ → List Chunk → Type 0
GapIn ks need pre s post = (ks ≡ pre ++ free s ∷ post) × (need ≤ s)

-- there is no such chunk
abbrev pub NoGapIn : List Chunk → ℕ → Type 0
NoGapIn ks need = (pre : List Chunk) (s : ℕ) (post : List Chunk) → GapIn ks need pre s post → ⊥

-- so of the chunks of an arena
abbrev pub GapAt : List ℕ → ℕ → List Chunk → ℕ → List Chunk → Type 0
GapAt a need pre s post = GapIn (chunks_of a) need pre s post

abbrev pub NoGap : List ℕ → ℕ → Type 0
NoGap a need = NoGapIn (chunks_of a) need
