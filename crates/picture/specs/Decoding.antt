-- What is found of a text. No public contract cites this file.
use Rattle.std.specs.Prelude.{ℕ, ◌+◌, ◌≤◌, ◌≡◌, Bool, true, List, map, length, take, drop, Option, None, Some}
use Rattle.digits.specs.Digits.{upper}
use Rattle.rules.specs.Answers.{Answer, Gives, settle}
use Rattle.rules.specs.Calls.{read_into}
use Rattle.rules.specs.Pictures.{frame, frames_from, frames_for, line_head, line_length, words_in, standing_from, same, Said, bad, good}
use Rattle.frames.specs.Lines.{has_line}

-- `words` are the `count` words of the frame at byte `at`, and `r` tells whether it is the frame of these
pub record ReadsFrame (text : List ℕ) (at index count : ℕ) (r : Bool) (words : List ℕ) : Type 0 where
  pub loads : words ≡ words_in count (drop line_head (drop at text))
  pub tells : r ≡ has_line (frame index words) (drop at text)

-- `count` words from `slot` on lie in a buffer of `room` words; in their own place, if that does
pub record Slot (i count room slot : ℕ) : Type 0 where
  pub lies : slot + count ≤ room
  pub stays : i + count ≤ room → slot ≡ i

-- the rest of a text is the frames, from word `at` on, of the `left` words at their places there
unfoldable pub holds_frames : ℕ → ℕ → List ℕ → Bool
holds_frames at left rest = same (map upper rest) (frames_from (frames_for left) at (standing_from (frames_for left) left rest))

-- `r` tells whether the text goes on with the frames of `n` words; if so, and the buffer has as many, they are there
pub record ReadsFrames (text : List ℕ) (n : ℕ) (r : Bool) (buffer : List ℕ) : Type 0 where
  pub tells : r ≡ holds_frames 0 n (drop (line_length 0) text)
  pub loads : r ≡ true → n ≤ length buffer → take n buffer ≡ standing_from (frames_for n) n (drop (line_length 0) text)

-- what a text says was found: nothing where it is bad, or else how many words it says and, if the buffer has as many,
-- which
abbrev pub Finds : Said → Option ℕ → List ℕ → Type 0
Finds bad None buffer = Unit {0}
Finds bad (Some n) buffer = ⊥
Finds (good ws) None buffer = ⊥
Finds (good ws) (Some n) buffer = (n ≡ length ws) × (n ≤ length buffer → take n buffer ≡ ws)

-- words were accepted, or not: if a buffer has what was found of a text that says `n` words, then what is answered, and
-- the words afterwards, are what comes of that for the words `a`
abbrev pub Accepts : ℕ → List ℕ → List ℕ → Answer → List ℕ → Type 0
Accepts n buffer a answer after =
    (found : Said) → Finds found (Some n) buffer → Gives (settle 0 a (read_into (length a) found)) answer after
