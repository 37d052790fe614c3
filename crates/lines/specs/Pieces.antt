-- A text that comes in pieces: what is heard of it, wherever it is cut, and what a reader promises.
use Rattle.std.specs.Prelude.{ℕ, ◌/◌, ◌≤◌, min, ◌≡◌, true, false, cond, List, [], ◌∷◌, ◌++◌, length, take, drop, eqb}
use Rattle.digits.specs.Digits.{line_end}
use Rattle.requests.specs.LinePlaces.{at_start, onward, request_at}
use Rattle.requests.specs.declared.Place.{Place}
use Rattle.replies.specs.Boards.{Board, lending, longest_reply, Replied, replied}
use Rattle.lines.specs.declared.Heard.{Heard}

-- what is known once bytes have been heard: the replies so far, the place, and the board
pub record Hearing : Type 0 where
  pub replies : List ℕ
  pub place : Place
  pub board : Board

-- bytes heard from a place on
unfoldable pub hears : Place → Board → List ℕ → Hearing
hears place board [] = record { replies = []; place = place; board = board }
hears place board (b ∷ bs) =
    elim (eqb b line_end) [
      | true ↦
          let first = replied (request_at place) board in
          let rest = hears at_start first.board bs in
          record { replies = first.reply ++ rest.replies; place = rest.place; board = rest.board }
      | false ↦ hears (onward place b) board bs
    ]

-- a hearing goes on with more bytes
abbrev pub goes_on : Hearing → List ℕ → Hearing
goes_on hearing bytes =
    let rest = hears hearing.place hearing.board bytes in
    record { replies = hearing.replies ++ rest.replies; place = rest.place; board = rest.board }

-- nothing is heard yet
abbrev pub unheard : Board → Hearing
unheard board = record { replies = []; place = at_start; board = board }

-- what ends the unfinished line, where something has come of it
abbrev pub ending : Place → List ℕ
ending place = cond (eqb place.digits 0) [] (line_end ∷ [])

-- a hearing goes on with pieces, one after the other
abbrev pub heard_after : Hearing → List (List ℕ) → Hearing
heard_after hearing [] = hearing
heard_after hearing (piece ∷ pieces) = heard_after (goes_on hearing piece) pieces

-- a hearing whose text is at its end: the unfinished line is ended, too
abbrev pub closed : Hearing → Replied
closed hearing =
    let whole = goes_on hearing (ending hearing.place) in
    record { reply = whole.replies; board = whole.board }

-- a text that comes in pieces, from its start to its end
abbrev pub heard_in_pieces : List (List ℕ) → Board → Replied
heard_in_pieces pieces board = closed (heard_after (unheard board) pieces)

-- what a reader has at the beginning of a text: no words are lent
abbrev pub nothing_heard : Heard
nothing_heard = record { place = at_start; lent = 0; taken = 0; written = 0 }

-- the board of a buffer whose first `lent` words are lent, or all where it has no more
abbrev pub board_of : List ℕ → ℕ → Board
board_of words lent = lending words (min lent (length words))

-- the bytes of a piece that a lent text has room to answer, however long their replies are
abbrev pub answerable : List ℕ → List ℕ → List ℕ
answerable piece room = take (length room / longest_reply) piece

-- the promise of a reader that hears these bytes, all of them: their replies stand at the start of the lent text
-- `room`, and the rest of it stays
pub record HearsAll (place : Place) (board : Board) (bytes : List ℕ) (room : List ℕ) (heard : Heard) (words : List ℕ) (text : List ℕ) : Type 0 where
  pub takes : heard.taken ≡ length bytes
  pub places : heard.place ≡ (hears place board bytes).place
  pub lends : heard.lent ≡ (hears place board bytes).board.lent
  pub stores : words ≡ (hears place board bytes).board.words
  pub lendable : heard.lent ≤ length words
  pub counts : heard.written ≡ length (hears place board bytes).replies
  pub says : text ≡ (hears place board bytes).replies ++ drop (length (hears place board bytes).replies) room
