-- Where a chunk stands, as functions say it to each other: by the word where it starts, and the word that names the
-- next free chunk.
use Rattle.std.specs.Prelude.{ℕ, ◌+◌, ◌≤◌, ◌≡◌, true, List, Option, None, Some}
use Rattle.layout.specs.Numbers.{first_chunk, list_word, header_words}
use Rattle.layout.specs.Chunks.{Chunk, free, live, total}
use Rattle.layout.specs.Walk.{sound, chunks_of}
use Rattle.layout.specs.Links.{link_at}
use Rattle.rules.specs.Spots.{Spot, nowhere, at}
use Rattle.rules.specs.Stands.{Stands}
use Rattle.rules.specs.Rooms.{Needed}
use Rattle.passes.specs.declared.places.Place.{Place}

-- the place of a chunk that starts at word `chunk`, and whose link word is `link`
abbrev pub place_at : ℕ → ℕ → Place
place_at link chunk = record { link = link; chunk = chunk }

-- a spot as a search answers it: the word that names the first free chunk after those before it, and its own start
unfoldable pub place_of : Spot → Option Place
place_of nowhere = None
place_of (at pre k post) = Some (place_at (link_at list_word first_chunk pre) (first_chunk + total pre))

-- chunk `k` of the sound arena `a` stands between `pre` and `post` and starts at word `chunk`; word `link` names the
-- first free chunk after `pre`
pub record Placed (a : List ℕ) (pre : List Chunk) (k : Chunk) (post : List Chunk) (link chunk : ℕ) : Type 0 where
  pub is_sound : sound a ≡ true
  pub stands : Stands (chunks_of a) pre k post (chunk + header_words)
  pub link_is : link ≡ link_at list_word first_chunk pre

-- a live chunk starts at `chunk`
abbrev pub LiveAt : List ℕ → ℕ → ℕ → Type 0
LiveAt a link chunk = (pre : List Chunk) × (s : ℕ) × (asked : ℕ) × (post : List Chunk) × Placed a pre (live s asked) post link chunk

-- a free chunk that fits the need of a request for `asked` words starts at `chunk`
abbrev pub FitsAt : List ℕ → ℕ → ℕ → ℕ → ℕ → Type 0
FitsAt a link chunk need asked =
    (pre : List Chunk) × (s : ℕ) × (post : List Chunk) × Placed a pre (free s) post link chunk × (need ≤ s) × Needed need asked
