-- A picture of an arena: its words as lines of text. And what a text says.
use Rattle.std.specs.Prelude.{ℕ, zero, suc, ◌+◌, ◌-◌, ◌*◌, ◌/◌, ◌%◌, ◌<◌, min, ◌≡◌, Bool, true, false, cond, ◌&&◌, List, [], ◌∷◌, ◌++◌, map, length, take, drop, eqb}
use Rattle.layout.specs.Numbers.{word_values}
use Rattle.layout.specs.Bounds.{AllBelow}
use Rattle.digits.specs.Digits.{line_end, number_of, upper, four_digit_values, two_digits, four_digits, eight_digits, in_digits}

-- ---- what a picture is

-- the words of a full frame
abbrev pub frame_words : ℕ
frame_words = 8

-- a line: its kind in two digits, a number in four, words in eight each, and the line's end
unfoldable pub line : ℕ → ℕ → List ℕ → List ℕ
line kind number ws = two_digits kind ++ (four_digits number ++ (in_digits eight_digits ws ++ line_end ∷ []))

-- the first line: 06, and how many words there are
abbrev pub size_line : ℕ → List ℕ
size_line n = line 6 n []

-- a frame: 07, the index of its first word, and its words
abbrev pub frame : ℕ → List ℕ → List ℕ
frame at ws = line 7 at ws

-- so many frames of the words `ws`, the first of which is word `at`: all are full but the last
unfoldable pub frames_from : ℕ → ℕ → List ℕ → List ℕ
frames_from zero at ws = []
frames_from (suc more) at ws = frame at (take frame_words ws) ++ frames_from more (at + frame_words) (drop frame_words ws)

-- the frames that `n` words take
abbrev pub frames_for : ℕ → ℕ
frames_for n = (n + (frame_words - 1)) / frame_words

-- the picture of words: the first line, and then all frames
unfoldable pub picture_of : List ℕ → List ℕ
picture_of ws = size_line (length ws) ++ frames_from (frames_for (length ws)) 0 ws

-- ---- how long it is: the theorem is `picture_length_lem`

-- the digits of a word, and the bytes of a line before its words
abbrev pub word_digits : ℕ
word_digits = 8

abbrev pub line_head : ℕ
line_head = 6

-- the bytes of a line with so many words
abbrev pub line_length : ℕ → ℕ
line_length count = line_head + count * word_digits + 1

-- those of a picture, as a formula of N: its lines without their words, and the words
abbrev pub picture_length : ℕ → ℕ
picture_length n = (1 + frames_for n) * line_length 0 + n * word_digits

-- ---- what a text says

-- a text says these words: with its letters a to f as capitals it is their picture, and they are words that a picture
-- can have, not too many for four digits and each not too large for eight
pub record Says (text ws : List ℕ) : Type 0 where
  pub is : map upper text ≡ picture_of ws
  pub counted : length ws < four_digit_values
  pub fitting : AllBelow word_values ws

-- the words that a text says, if it says any
pub data Said : Type 0 where
  bad : Said
  good : List ℕ → Said

-- ---- which they are: the theorem `said_says` is that `said` finds the words that `Says` speaks of

-- so many words at the start of a text, whatever bytes stand there: if one is no digit the number may be too large, and
-- the text is bad anyway
unfoldable pub words_in : ℕ → List ℕ → List ℕ
words_in zero text = []
words_in (suc more) text = number_of (take word_digits text) % word_values ∷ words_in more (drop word_digits text)

-- the words at their places in so many frames, of which `left` are left
unfoldable pub standing_from : ℕ → ℕ → List ℕ → List ℕ
standing_from zero left text = []
standing_from (suc more) left text =
    words_in (min frame_words left) (drop line_head text)
    ++ standing_from more (left - frame_words) (drop (line_length (min frame_words left)) text)

-- how many words the first line tells, and the words at the places where a picture of so many has them
abbrev pub standing_count : List ℕ → ℕ
standing_count text = number_of (take 4 (drop 2 text)) % four_digit_values

abbrev pub standing : List ℕ → List ℕ
standing text = standing_from (frames_for (standing_count text)) (standing_count text) (drop (line_length 0) text)

-- two texts are the same
unfoldable pub same : List ℕ → List ℕ → Bool
same [] [] = true
same [] (y ∷ ys) = false
same (x ∷ xs) [] = false
same (x ∷ xs) (y ∷ ys) = eqb x y && same xs ys

-- the text is the picture of the words at their places, or it is bad
unfoldable pub said : List ℕ → Said
said text = cond (same (map upper text) (picture_of (standing text))) (good (standing text)) bad
