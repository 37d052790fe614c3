-- The room of the live chunk at a word, and the chunk that is freed with it.
use Rattle.std.specs.Prelude.{ℕ, ◌+◌, ◌-◌, ◌≡◌, cond, List, get_or, set, leb, eqb, Option, None, Some}
use Rattle.layout.specs.Numbers.{list_word}
use Rattle.layout.specs.Chunks.{Chunk, live, first_free, write, written}
use Rattle.rules.specs.Spots.{at}
use Rattle.rules.specs.Rules.{released}
use Rattle.rules.specs.Rooms.{room_words, room_after}
use Rattle.passes.specs.Places.{Placed}
use Rattle.stores.specs.declared.release.Room.{Room}

-- the room of a chunk of `s` words that starts at `chunk`, before `post`
pub record HasRoom (s : ℕ) (post : List Chunk) (chunk : ℕ) (room : Room) : Type 0 where
  pub words_are : room.words ≡ room_words s post
  pub next_is : room.next ≡ first_free (chunk + room_words s post) (room_after post) 0

abbrev pub RoomAt : List ℕ → ℕ → ℕ → Room → Type 0
RoomAt a link chunk room =
    (pre : List Chunk) (s asked : ℕ) (post : List Chunk) → Placed a pre (live s asked) post link chunk → HasRoom s post chunk room

-- the live chunk that stands at `chunk` was freed
abbrev pub FreedAt : List ℕ → ℕ → ℕ → List ℕ → Type 0
FreedAt a link chunk after =
    (pre : List Chunk) (s asked : ℕ) (post : List Chunk) → Placed a pre (live s asked) post link chunk → after ≡ written (released (at pre (live s asked) post)) a

-- the words `a` once the room of the chunk at `chunk` is the chunks `new`: word `link` names the first free chunk from
-- there on, and `next` is the start of the first one behind the room, or 0
unfoldable pub room_written : ℕ → ℕ → List Chunk → ℕ → List ℕ → List ℕ
room_written link chunk new next a = write chunk new next (set a link (first_free chunk new next))

-- the start of the free chunk whose second word is `link`, if it ends at `chunk`
unfoldable pub free_before : List ℕ → ℕ → ℕ → Option ℕ
free_before a link chunk = cond (leb link list_word) None (cond (eqb (get_or a (link - 1) 0) (chunk - (link - 1))) (Some (link - 1)) None)
