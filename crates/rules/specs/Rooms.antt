-- A need that a chunk can have, and the room of a block. The laws and the functions speak of these; no public contract,
-- and no theorem that is promised of a call, cites this file.
use Rattle.std.specs.Prelude.{ℕ, ◌+◌, ◌%◌, ◌≤◌, ◌≡◌, ◌&&◌, cond, List, [], ◌∷◌, leb, ltb}
use Rattle.layout.specs.Numbers.{header_words, least_size, greatest_length}
use Rattle.layout.specs.Chunks.{Chunk, free, live}
use Rattle.rules.specs.Rules.{taken}

-- a need, and the words that are asked for: even, at least the least size, and no longer than an arena; some words are
-- asked for, and the need holds them
pub record Needed (need asked : ℕ) : Type 0 where
  pub even : need % 2 ≡ 0
  pub least : least_size ≤ need
  pub most : need ≤ greatest_length
  pub some : 1 ≤ asked
  pub holds : asked + header_words ≤ need

-- the words of a chunk of `s` words together with a free chunk right after it, and the chunks behind them
abbrev pub room_words : ℕ → List Chunk → ℕ
room_words s [] = s
room_words s (free t ∷ ks) = s + t
room_words s (live t asked ∷ ks) = s

abbrev pub room_after : List Chunk → List Chunk
room_after [] = []
room_after (free t ∷ ks) = ks
room_after (live t asked ∷ ks) = live t asked ∷ ks

-- how many of the words of its room a block of `size` words keeps for a need: just the need, where its own words are
-- enough and a free chunk takes those over; otherwise as many as the need takes of the room
abbrev pub kept_of : ℕ → ℕ → ℕ → ℕ
kept_of need size words = cond (ltb size words && leb need size) need (taken need words)
