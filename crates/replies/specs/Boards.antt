-- The board, and what it replies to a request.
use Rattle.std.specs.Prelude.{ℕ, ◌+◌, ◌*◌, cond, List, [], ◌∷◌, ◌++◌, length, take, drop, leb, eqb}
use Rattle.rules.specs.Answers.{Answer, Outcome, no_call}
use Rattle.rules.specs.Calls.{start_on, alloc_on, free_on, realloc_on, report_on}
use Rattle.digits.specs.Digits.{line_end, two_digits, four_digits, in_digits}
use Rattle.requests.specs.Requests.{kind_of}
use Rattle.requests.specs.declared.Request.{Request}
use Rattle.requests.specs.declared.Request.TheVariants.{Start, Alloc, Free, Realloc, Report, Malformed}

-- a buffer of words, the first `lent` of which are lent to the calls
pub record Board : Type 0 where
  pub words : List ℕ
  pub lent : ℕ

abbrev pub lending : List ℕ → ℕ → Board
lending words lent = record { words = words; lent = lent }

-- ---- a reply's text

abbrev pub fields_text : List ℕ → List ℕ
fields_text vs = in_digits four_digits vs

-- two digits of request, two of code, the fields in four digits each, and the line's end
unfoldable pub reply_text : ℕ → Answer → List ℕ
reply_text kind answer = two_digits kind ++ (two_digits answer.code ++ (fields_text answer.values ++ line_end ∷ []))

-- its bytes, for so many fields
abbrev pub reply_length : ℕ → ℕ
reply_length fields = 5 + fields * 4

-- the longest reply is that of a report, with four fields
abbrev pub longest_reply : ℕ
longest_reply = reply_length 4

-- ---- what a request comes to

-- the words that a board lends
abbrev pub lent_of : Board → List ℕ
lent_of board = take board.lent board.words

-- the words that it lends for a start with `n`: none where it has not as many
abbrev pub lent_for : ℕ → Board → List ℕ
lent_for n board = cond (leb n (length board.words)) (take n board.words) []

-- a request's call on the lent words: what it answers, and these words afterwards. A malformed line makes no call
unfoldable pub outcome_of : Request → Board → Outcome
outcome_of (Start n) board = start_on (lent_for n board)
outcome_of (Alloc n) board = alloc_on (lent_of board) n
outcome_of (Free b) board = free_on (lent_of board) b
outcome_of (Realloc b n) board = realloc_on (lent_of board) b n
outcome_of Report board = report_on (lent_of board)
outcome_of Malformed board = no_call (lent_of board)

-- how many words are lent once a request is done: a start's number, from then on
abbrev pub lent_after : Request → Board → ℕ
lent_after (Start n) board = n
lent_after (Alloc n) board = board.lent
lent_after (Free b) board = board.lent
lent_after (Realloc b n) board = board.lent
lent_after Report board = board.lent
lent_after Malformed board = board.lent

-- the board that lends its first `n` words, which are now `a`
abbrev pub with_lent : Board → ℕ → List ℕ → Board
with_lent board n a = lending (a ++ drop n board.words) n

-- a reply's text, and the board after it
pub record Replied : Type 0 where
  pub reply : List ℕ
  pub board : Board

-- what the board replies to a request; one that is refused leaves it as it was, a start too
unfoldable pub replied : Request → Board → Replied
replied request board =
    let outcome = outcome_of request board in
    record {
      reply = reply_text (kind_of request) outcome.answer;
      board = cond (eqb outcome.answer.code 0) (with_lent board (lent_after request board) outcome.words) board;
    }
