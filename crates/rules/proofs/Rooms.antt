-- The room of a live chunk, which is its own words and those of a free chunk right after it, among the chunks.
use mathlib.Core.Path.{◌≡◌, refl, ap, ◌∙◌}
use mathlib.Core.Logic.{◌↔◌}
use mathlib.Core.Bool.{true, false}
use mathlib.Core.List.{List, [], ◌∷◌, ◌++◌}
use Prim.Native.Nat.{ℕ, ◌+◌, ◌%◌, ◌≤◌, ◌<◌}
use native.Mathlib.Omega.{arith}
use Rattle.layout.specs.Numbers.{least_size}
use Rattle.layout.specs.Chunks.{Chunk, free, live, total}
use Rattle.layout.proofs.Holds.{Sizes, Spaced}
use Rattle.rules.specs.Rules.{join}
use Rattle.rules.specs.Causes.{Short}
use Rattle.rules.specs.Rooms.{room_words, room_after}

-- the free chunk right after a chunk, if there is one
abbrev pub room_tail : List Chunk → List Chunk
room_tail [] = []
room_tail (free t ∷ ks) = free t ∷ []
room_tail (live t asked ∷ ks) = []

pub room_parts : (post : List Chunk) → post ≡ room_tail post ++ room_after post
room_parts [] = refl
room_parts (free t ∷ ks) = refl
room_parts (live t asked ∷ ks) = refl

pub room_words_lem : (s : ℕ) (post : List Chunk) → room_words s post ≡ s + total (room_tail post)
room_words_lem s [] = omega arith
room_words_lem s (free t ∷ ks) = omega arith
room_words_lem s (live t asked ∷ ks) = omega arith

-- the chunks of which it is a part
pub room_split : {ks : List Chunk} (pre : List Chunk) (s asked : ℕ) (post : List Chunk) → ks ≡ pre ++ live s asked ∷ post
    → ks ≡ pre ++ (live s asked ∷ room_tail post ++ room_after post)
room_split pre s asked post same = same ∙ ap (λ (ks : List Chunk). pre ++ live s asked ∷ ks) (room_parts post)

-- its words are even in number
pub room_even : (s asked : ℕ) (post : List Chunk) → Sizes (live s asked ∷ post) → room_words s post % 2 ≡ 0
room_even s asked [] z = z.0
room_even s asked (free t ∷ ks) z = omega (arith, z.0, z.2.0)
room_even s asked (live t other ∷ ks) z = z.0

-- behind the room stands no free chunk
pub room_spaced : (post : List Chunk) → Spaced false post → Spaced true (room_after post)
room_spaced [] p = tt
room_spaced (free t ∷ ks) p = p.1
room_spaced (live t asked ∷ ks) p = p

-- a free chunk in the chunk's place takes the whole room
pub room_joins : (s : ℕ) (post : List Chunk) → join (free s) post ≡ free (room_words s post) ∷ room_after post
room_joins s [] = refl
room_joins s (free t ∷ ks) = refl
room_joins s (live t asked ∷ ks) = refl

-- a free chunk right after a block has at least the least size
pub room_next : (s : ℕ) (post : List Chunk) → Sizes post → s < room_words s post → s + least_size ≤ room_words s post
room_next s [] z beside = absurd (omega arith)
room_next s (free t ∷ ks) z beside = omega (arith, z.1)
room_next s (live t asked ∷ ks) z beside = absurd (omega arith)

-- the words of the chunk and of a free chunk right after it are too few exactly when its room is
pub short_room : (s : ℕ) (post : List Chunk) (need : ℕ) → Short s post need ↔ (room_words s post < need)
short_room s post need = (
  room post,
  λ l. record { own = omega (arith, room_words_lem s post); with_next = λ (t : ℕ) (rest : List Chunk) (e : post ≡ free t ∷ rest). rw e at l },
)
  where
    room : (post : List Chunk) → Short s post need → room_words s post < need
    room [] l = l.own
    room (live t asked ∷ post) l = l.own
    room (free t ∷ post) l = l.with_next t post refl
