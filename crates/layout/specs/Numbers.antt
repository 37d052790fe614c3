-- The numbers of an arena, each once, and the need of a request.
use Rattle.std.specs.Prelude.{ℕ, ◌+◌, ◌-◌, ◌%◌, Bool, ◌&&◌, leb, eqb}

-- the words before the first chunk: word 0 holds N, word 1 names the first free chunk
abbrev pub control_words : ℕ
control_words = 2

-- the word that names the first free chunk
abbrev pub list_word : ℕ
list_word = 1

-- where the first chunk starts
abbrev pub first_chunk : ℕ
first_chunk = control_words

-- a chunk's size and its second word; the block begins behind them
abbrev pub header_words : ℕ
header_words = 2

-- the least size of a chunk, header counted
abbrev pub least_size : ℕ
least_size = 4

-- the least N, and the greatest
abbrev pub least_length : ℕ
least_length = 6

abbrev pub greatest_length : ℕ
greatest_length = 16384

-- if this many words or more are left over, they are split off as a chunk of their own
abbrev pub least_split : ℕ
least_split = 8

-- what fits a word is below this number
abbrev pub word_values : ℕ
word_values = 4294967296

-- the second word of a live chunk is this number and the words that were asked for; that of a free chunk is below it
abbrev pub live_mark : ℕ
live_mark = 2147483648

-- N is lawful: even, and within the two bounds
abbrev pub lawful : ℕ → Bool
lawful n = eqb (n % 2) 0 && (leb least_length n && leb n greatest_length)

-- the largest request that an arena of `n` words takes: N - 4
abbrev pub greatest_request : ℕ → ℕ
greatest_request n = n - (control_words + header_words)

-- the words that a request for `n` needs: `n` rounded up to even, and a header
abbrev pub need : ℕ → ℕ
need n = n + n % 2 + header_words
