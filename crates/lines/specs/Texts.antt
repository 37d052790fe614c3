-- What a whole text means: its lines, and what the board replies to them.
use Rattle.std.specs.Prelude.{ℕ, true, false, List, [], ◌∷◌, ◌++◌, eqb}
use Rattle.digits.specs.Digits.{line_end}
use Rattle.requests.specs.Requests.{request_of}
use Rattle.replies.specs.Boards.{Board, Replied, replied}

-- a last line without an end counts if it is not empty
abbrev pub last_line : List ℕ → List (List ℕ)
last_line [] = []
last_line (b ∷ bs) = (b ∷ bs) ∷ []

-- the lines of a text, without their ends, where `line` has come of the first one
unfoldable pub lines_from : List ℕ → List ℕ → List (List ℕ)
lines_from line [] = last_line line
lines_from line (b ∷ bs) =
    elim (eqb b line_end) [ true ↦ line ∷ lines_from [] bs | false ↦ lines_from (line ++ b ∷ []) bs ]

abbrev pub lines_of : List ℕ → List (List ℕ)
lines_of text = lines_from [] text

-- what is replied to lines, one after the other, and the board at the end
unfoldable pub replied_to : List (List ℕ) → Board → Replied
replied_to [] board = record { reply = []; board = board }
replied_to (line ∷ lines) board =
    let first = replied (request_of line) board in
    let rest = replied_to lines first.board in
    record { reply = first.reply ++ rest.reply; board = rest.board }

-- what a text means
abbrev pub means : List ℕ → Board → Replied
means text board = replied_to (lines_of text) board
