-- What one turn of the program comes to.
use Rattle.std.specs.Prelude.{ℕ, ◌*◌, ◌<◌, ◌≤◌, List, length, take, Option}
use Rattle.std.specs.Io.KnownBytes.{Appends, Consumes, IsAtEnd}
use Rattle.requests.specs.declared.Place.{Place}
use Rattle.replies.specs.Boards.{Board, longest_reply}
use Rattle.lines.specs.Pieces.{ending, HearsAll}
use Rattle.lines.specs.declared.Heard.{Heard}

-- a lent text has room for the replies to a piece, and to the last line
pub record Roomy (piece room : List ℕ) : Type 0 where
  pub for_piece : length piece * longest_reply ≤ length room
  pub for_end : longest_reply ≤ length room

-- the bytes that came, which stand at the start of `piece`, are heard; or the end of the text is
pub data Turned (place : Place) (board : Board) (piece room : List ℕ) (heard : Heard) (words text : List ℕ) : Type 0 where
  came : HearsAll place board (take heard.taken piece) room heard words text → Turned place board piece room heard words text
  ended : HearsAll place board (ending place) room heard words text → Turned place board piece room heard words text

-- after this turn there may be more to come: the bytes that came were read, what a reader had left before and after it,
-- and their replies are written, what a writer held
pub record Continues (place : Place) (board : Board) (piece room : List ℕ) (heard : Heard) (words text : List ℕ)
    (left left' held held' : Option (List ℕ)) : Type 0 where
  pub hears : HearsAll place board (take heard.taken piece) room heard words text
  pub reads : Consumes left left' (take heard.taken piece)
  pub writes : Appends held held' (take heard.written text)

-- this turn was the last, and left nothing out: there was nothing more to read, and the last replies are written
pub record Finishes (place : Place) (board : Board) (piece room : List ℕ) (heard : Heard) (words text : List ℕ)
    (left held held' : Option (List ℕ)) : Type 0 where
  pub hears : HearsAll place board (ending place) room heard words text
  pub reads : 0 < length piece → IsAtEnd left
  pub writes : Appends held held' (take heard.written text)
