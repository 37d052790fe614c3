-- Which word names which free chunk. No public contract cites this file: it serves the functions of the crates above,
-- and the law of the free list.
use Rattle.std.specs.Prelude.{ℕ, ◌+◌, ◌<◌, ◌≡◌, List, [], ◌∷◌, length, get_or}
use Rattle.layout.specs.Chunks.{Chunk, free, live}

-- the word that names the first free chunk after `ks`, which begin at word `c`: the last free one's second word, `base`
-- if none of them is free
abbrev pub link_at : ℕ → ℕ → List Chunk → ℕ
link_at base c [] = base
link_at base c (free s ∷ ks) = link_at (c + 1) (c + s) ks
link_at base c (live s asked ∷ ks) = link_at base (c + s) ks

-- the free list of `ks`, which begin at word `c`: the start and the size of each free chunk, in address order
abbrev pub free_list : ℕ → List Chunk → List (ℕ × ℕ)
free_list c [] = []
free_list c (free s ∷ ks) = (c, s) ∷ free_list (c + s) ks
free_list c (live s asked ∷ ks) = free_list (c + s) ks

-- the links from word `link` on lead through `list`, a start and a size each, and end there: word `link` names a chunk
-- above it whose header lies in the arena; the first word of that chunk is its size, the second the next link; the last
-- link is 0
abbrev pub Chain : List ℕ → ℕ → List (ℕ × ℕ) → Type 0
Chain a link [] = get_or a link 0 ≡ 0
Chain a link ((c, s) ∷ list) = (get_or a link 0 ≡ c) × (get_or a c 0 ≡ s) × (link < c) × (c + 1 < length a) × Chain a (c + 1) list
