-- What the functions that hear one byte, and bytes one after the other, promise; no public contract cites it.
use Rattle.std.specs.Prelude.{ℕ, ◌*◌, ◌≤◌, ◌≡◌, List, [], ◌∷◌, length}
use Rattle.requests.specs.declared.Place.{Place}
use Rattle.digits.specs.Putting.{Puts}
use Rattle.replies.specs.Boards.{Board, longest_reply, Replied}
use Rattle.replies.specs.Answering.{Answers}
use Rattle.lines.specs.Pieces.{hears}

-- what is replied once one byte is heard: nothing, or the reply to the line that it ends
abbrev pub replied_byte : Place → Board → ℕ → Replied
replied_byte place board b =
    let heard = hears place board (b ∷ []) in
    record { reply = heard.replies; board = heard.board }

-- one byte is heard
pub record HearsByte (place : Place) (board : Board) (b : ℕ) (next : Place)
    (words : List ℕ) (lent : ℕ) (at : ℕ) (room : List ℕ) (end : ℕ) (text : List ℕ) : Type 0 where
  pub places : next ≡ (hears place board (b ∷ [])).place
  pub answers : Answers (replied_byte place board b) words lent at room end text

-- these bytes have been heard: the reader's place, the words, and the replies in the lent text; none is longer than the
-- longest
pub record HearsBytes (from : Place) (on : Board) (bytes room : List ℕ) (place : Place) (lent written : ℕ) (words text : List ℕ) : Type 0 where
  pub places : place ≡ (hears from on bytes).place
  pub lends : lent ≡ (hears from on bytes).board.lent
  pub stores : words ≡ (hears from on bytes).board.words
  pub puts : Puts 0 (hears from on bytes).replies room written text
  pub few : written ≤ length bytes * longest_reply
  pub lendable : lent ≤ length words
