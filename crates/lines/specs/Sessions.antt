-- A reader's caller at work: from a buffer of which nothing is lent, piece after piece, each call with what the last
-- one left.
use Rattle.std.specs.Prelude.{ℕ, List, [], ◌++◌, take}
use Rattle.requests.specs.declared.Place.{Place}
use Rattle.lines.specs.Pieces.{nothing_heard, board_of, answerable, HearsAll}
use Rattle.lines.specs.declared.Heard.{Heard}

-- from the words `start` on: the place, how many words are lent, the words, all that was said, and the text that was
-- taken
pub data Session (start : List ℕ) : Place → ℕ → List ℕ → List ℕ → List ℕ → Type 0 where
  begun : Session start nothing_heard.place nothing_heard.lent start [] []
  next : {place : Place} {lent : ℕ} {words said text : List ℕ} → Session start place lent words said text
      → (piece room : List ℕ) (heard : Heard) (words' text' : List ℕ)
      → HearsAll place (board_of words lent) (answerable piece room) room heard words' text'
      → Session start heard.place heard.lent words' (said ++ take heard.written text') (text ++ answerable piece room)
