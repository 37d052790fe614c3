-- An arena's chunks, and the words that they stand for.
use Rattle.std.specs.Prelude.{ℕ, ◌+◌, List, [], ◌∷◌, length, set}
use Rattle.layout.specs.Numbers.{first_chunk, live_mark}

-- a chunk of so many words, header counted; a live one with the words that were asked for
pub data Chunk : Type 0 where
  free : (size : ℕ) → Chunk
  live : (size asked : ℕ) → Chunk

abbrev pub size : Chunk → ℕ
size (free s) = s
size (live s asked) = s

abbrev pub total : List Chunk → ℕ
total [] = 0
total (k ∷ ks) = size k + total ks

-- the start of the first free chunk of `ks`, which begin at word `c`; `after` if none is free
abbrev pub first_free : ℕ → List Chunk → ℕ → ℕ
first_free c [] after = after
first_free c (free s ∷ ks) after = c
first_free c (live s asked ∷ ks) after = first_free (c + s) ks after

-- a chunk's second word, where the next free chunk starts at `next`
abbrev pub second : Chunk → ℕ → ℕ
second (free s) next = next
second (live s asked) next = live_mark + asked

-- the words `a` with `v` in word `i` and `w` in word `i + 1`
unfoldable pub header : ℕ → ℕ → ℕ → List ℕ → List ℕ
header i v w a = set (set a i v) (i + 1) w

-- the words `a` with the headers of `ks`, which begin at word `c`; the last free one names `after`
unfoldable pub write : ℕ → List Chunk → ℕ → List ℕ → List ℕ
write c [] after a = a
write c (k ∷ ks) after a =
    write (c + size k) ks after (header c (size k) (second k (first_free (c + size k) ks after)) a)

-- the words `a` with the control words and the headers of `ks`: all other words are as they were
unfoldable pub written : List Chunk → List ℕ → List ℕ
written ks a = write first_chunk ks 0 (header 0 (length a) (first_free first_chunk ks 0) a)
