-- The check walk: what stands in the words of an arena, chunk by chunk.
use Rattle.std.specs.Prelude.{ℕ, zero, suc, ◌+◌, ◌-◌, ◌%◌, List, [], ◌∷◌, Bool, true, false, cond, ◌&&◌, length, get_or, leb, eqb}
use Rattle.layout.specs.Numbers.{first_chunk, list_word, header_words, least_size, live_mark, lawful}
use Rattle.layout.specs.Chunks.{Chunk, free, live, size}

-- what the walk meets at a place: the end; a chunk, with the start of the next free chunk that is now wanted, and
-- whether this one is free; or words that are neither
pub data Met : Type 0 where
  end : Met
  chunk : Chunk → ℕ → Bool → Met
  nothing : Met

-- what the walk finds from a place on
pub data Walked : Type 0 where
  broken : Walked
  whole : List Chunk → Walked

abbrev pub with_chunk : Chunk → Walked → Walked
with_chunk k broken = broken
with_chunk k (whole ks) = whole (k ∷ ks)

abbrev pub is_whole : Walked → Bool
is_whole broken = false
is_whole (whole ks) = true

abbrev pub chunks_in : Walked → List Chunk
chunks_in broken = []
chunks_in (whole ks) = ks

-- a size that may stand at word `c` of an arena of `n` words
abbrev pub size_fits : ℕ → ℕ → ℕ → Bool
size_fits n c s = eqb (s % 2) 0 && (leb least_size s && leb s (n - c))

-- a chunk's second word says that it is live, and so many words were asked for then
abbrev pub is_live : ℕ → Bool
is_live second = leb live_mark second

abbrev pub asked_in : ℕ → ℕ
asked_in second = second - live_mark

-- a second word that may stand in a chunk of `s` words: one that says live asks for one word or more, and for no more
-- than the block has
abbrev pub second_fits : ℕ → ℕ → Bool
second_fits s second = cond (is_live second) (leb 1 (asked_in second) && leb (asked_in second) (s - header_words)) true

-- a header that may stand at word `c`
abbrev pub header_fits : List ℕ → ℕ → Bool
header_fits a c = size_fits (length a) c (get_or a c 0) && second_fits (get_or a c 0) (get_or a (c + 1) 0)

-- what stands at word `c`; `want` is where the last link says that the next free chunk starts (0: there is none),
-- `after_free` whether a free chunk ends at `c`
unfoldable pub meet : List ℕ → ℕ → ℕ → Bool → Met
meet a c want after_free =
    cond (eqb c (length a)) (cond (eqb want 0) end nothing)
    (cond (header_fits a c)
    (cond (is_live (get_or a (c + 1) 0)) (chunk (live (get_or a c 0) (asked_in (get_or a (c + 1) 0))) want false)
    (cond after_free nothing (cond (eqb want c) (chunk (free (get_or a c 0)) (get_or a (c + 1) 0) true) nothing)))
    nothing)

-- the chunks from word `c` on, of which at most `fuel` are passed
unfoldable pub walk : ℕ → List ℕ → ℕ → ℕ → Bool → Walked
walk zero a c want after_free =
    elim (meet a c want after_free) [ end ↦ whole [] | chunk k w j ↦ broken | nothing ↦ broken ]
walk (suc fuel) a c want after_free =
    elim (meet a c want after_free) [ end ↦ whole [] | chunk k w j ↦ with_chunk k (walk fuel a (c + size k) w j) | nothing ↦ broken ]

-- the chunks from word `c` on: fuel for as many chunks as there are words left is always enough
unfoldable pub walk_from : List ℕ → ℕ → ℕ → Bool → Walked
walk_from a c want after_free = walk (length a - c) a c want after_free

unfoldable pub walked : List ℕ → Walked
walked a = walk_from a first_chunk (get_or a list_word 0) false

-- the arena is sound
unfoldable pub sound : List ℕ → Bool
sound a = lawful (length a) && (eqb (get_or a 0 0) (length a) && is_whole (walked a))

-- the chunks of a sound arena
unfoldable pub chunks_of : List ℕ → List Chunk
chunks_of a = chunks_in (walked a)
