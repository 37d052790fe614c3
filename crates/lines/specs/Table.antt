-- Document 01's whole run and its move, in its own letters: what is asked of the functions that the program's contracts
-- cite. From 02000A on the replies are those of item 6, worked out again from the rules.
use Rattle.std.specs.Prelude.{ℕ, ◌≡◌, List, [], ◌∷◌, ◌++◌, replicate, take, drop}
use Prim.Native.Char.{code}
use Prim.Native.String.{String, [] as no_text, ◌∷◌ as ◌before◌}
use Rattle.layout.specs.Numbers.{greatest_length}
use Rattle.layout.specs.Chunks.{free, live}
use Rattle.layout.specs.Walk.{chunks_of}
use Rattle.digits.specs.Digits.{line_end}
use Rattle.requests.specs.LinePlaces.{at_start}
use Rattle.replies.specs.Boards.{Board, lending, lent_of}
use Rattle.lines.specs.Pieces.{Hearing, hears}

-- a text's bytes
abbrev pub bytes_of : String → List ℕ
bytes_of no_text = []
bytes_of (c before text) = code c ∷ bytes_of text

-- a line's bytes, with its end
abbrev pub line_of : String → List ℕ
line_of text = bytes_of text ++ line_end ∷ []

-- what is heard when a board is asked a line
abbrev pub asked : Board → String → Hearing
asked board text = hears at_start board (line_of text)

-- a row of the table: a starred one is asked, and is replied to so; a plain one is asked on the way
pub data Row : Type 0 where
  starred : String → String → Row
  plain : String → Row

-- every starred row is replied to as it says, after all rows above it
abbrev pub Replies : Board → List Row → Type 0
Replies board [] = Unit {0}
Replies board (starred text reply ∷ rows) = ((asked board text).replies ≡ line_of reply) × Replies (asked board text).board rows
Replies board (plain text ∷ rows) = Replies (asked board text).board rows

-- the board before the first line: all words zero, and none lent
abbrev pub fresh : Board
fresh = lending (replicate greatest_length 0) 0

abbrev pub whole_run : List Row
whole_run =
    starred "010020" "0100"
    ∷ starred "020005" "0200001A0006"
    ∷ starred "020001" "020000160002"
    ∷ starred "02000A" "020000040010"
    ∷ starred "05" "05000000000000030000"
    ∷ starred "030016" "0300"
    ∷ starred "030016" "0303"
    ∷ plain "020004"
    ∷ starred "04000A000D" "040300000000"
    ∷ plain "05"
    ∷ starred "020001" "020000160002"
    ∷ plain "04001A0007"
    ∷ plain "03000A"
    ∷ starred "02000B" "020600000000"
    ∷ starred "02001D" "020500000000"
    ∷ plain "020000"
    ∷ plain "0Z"
    ∷ []

-- the fresh board, but that words 26 and 27 are `x` and `y`, so that the copy of a move can be seen
abbrev pub marked : ℕ → ℕ → Board
marked x y = lending (take 26 fresh.words ++ x ∷ y ∷ drop 28 fresh.words) 0

-- N = 32, alloc 2 gives 30, alloc 2 gives 26, realloc 26 to 6 gives block 18 with 6 granted
abbrev pub move : List Row
move =
    starred "010020" "0100"
    ∷ starred "020002" "0200001E0002"
    ∷ starred "020002" "0200001A0002"
    ∷ starred "04001A0006" "040000120006"
    ∷ []

-- the board after rows
abbrev pub after : Board → List Row → Board
after board [] = board
after board (starred text reply ∷ rows) = after (asked board text).board rows
after board (plain text ∷ rows) = after (asked board text).board rows

-- words 18 and 19 are those of 26 and 27; free chunks are 2 (size 14) and 24 (size 4); 6 and 2 words were asked for
abbrev pub Moved : ℕ → ℕ → Board → Type 0
Moved x y board =
    (take 2 (drop 18 board.words) ≡ x ∷ y ∷ [])
    × (chunks_of (lent_of board) ≡ free 14 ∷ live 8 6 ∷ free 4 ∷ live 4 2 ∷ [])

-- the statement: the starred rows, each after all rows above it, and the move, whatever words 26 and 27 are
abbrev pub Table : Type 0
Table = Replies fresh whole_run × ((x y : ℕ) → Replies (marked x y) move × Moved x y (after (marked x y) move))
