-- What the functions inside promise of a request that is answered; no public contract cites it.
use Rattle.std.specs.Prelude.{ℕ, ◌≤◌, ◌≡◌, List, length}
use Rattle.digits.specs.Putting.{Puts}
use Rattle.answers.specs.Padded.{padded}
use Rattle.answers.specs.declared.Numbers.{Numbers}
use Rattle.requests.specs.declared.Request.{Request}
use Rattle.replies.specs.Boards.{Board, lending, longest_reply, outcome_of, Replied, replied}

-- a request's call is made: the board afterwards, as its words and how many of them are lent, and the answer in numbers
pub record Makes (request : Request) (on : Board) (words : List ℕ) (lent : ℕ) (numbers : Numbers) : Type 0 where
  pub answers : numbers ≡ padded (outcome_of request on).answer
  pub leaves : lending words lent ≡ (replied request on).board
  pub lendable : lent ≤ length words

-- a request is answered: the words and how many of them are lent afterwards, and the reply, put into the text `room`
-- from `at` up to `end`
pub record Answers (to : Replied) (words : List ℕ) (lent : ℕ) (at : ℕ) (room : List ℕ) (end : ℕ) (text : List ℕ) : Type 0 where
  pub stores : words ≡ to.board.words
  pub lends : lent ≡ to.board.lent
  pub puts : Puts at to.reply room end text
  pub short : length to.reply ≤ longest_reply
  pub lendable : lent ≤ length words
