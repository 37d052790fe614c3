-- A request that is refused tells no more than its reason, and changes nothing.
use Prim.Native.Nat.{ℕ, ◌≤◌, ◌<◌}
use mathlib.Core.Path.{◌≡◌, refl, ap, ap₂}
use mathlib.Core.Logic.{◌≢◌}
use mathlib.Core.Bool.{false}
use mathlib.Core.List.{List}
use native.Mathlib.Omega.{arith}
use lib.ListN.{length, replicate}
use borrow.Author.Tests.{lt-leb, ne_eqb}
use Rattle.layout.specs.Numbers.{lawful}
use Rattle.layout.specs.Reasons.{number}
use Rattle.layout.specs.declared.Reason.{Reason}
use Rattle.layout.specs.declared.Reason.TheVariants.{Length, WouldMove}
use Rattle.layout.proofs.Reasons.{number_positive}
use Rattle.rules.specs.Answers.{refusal}
use Rattle.rules.proofs.Calls.{alloc_behaves, realloc_behaves, report_behaves, start_behaves, free_behaves}
use Rattle.requests.specs.Requests.{kind_of}
use Rattle.requests.specs.declared.Request.{Request}
use Rattle.requests.specs.declared.Request.TheVariants.{Start, Alloc, Free, Realloc, Report, Malformed}
use Rattle.replies.specs.Boards.{Board, reply_text, lent_of, lent_for, outcome_of, Replied, replied}
use Rattle.replies.proofs.Telling.{fields_of}
use Rattle.replies.proofs.ReplyTexts.{numbers}

-- a refusal's fields are 0
pub refused_fields : (request : Request) (board : Board) → (outcome_of request board).answer.code ≢ 0
    → (outcome_of request board).answer.values ≡ replicate (fields_of request) 0
unfolding outcome_of
refused_fields (Start n) board = (start_behaves (lent_for n board)).zeros
refused_fields (Alloc n) board = (alloc_behaves (lent_of board) n).zeros
refused_fields (Free b) board = (free_behaves (lent_of board) b).zeros
refused_fields (Realloc b n) board = (realloc_behaves (lent_of board) b n).zeros
refused_fields Report board = (report_behaves (lent_of board)).zeros
refused_fields Malformed board = λ refused. refl

-- no request is answered 8: no line asks for a resize
pub never_would_move : (request : Request) (board : Board) → (outcome_of request board).answer.code ≢ number WouldMove
unfolding outcome_of
never_would_move (Start n) board e = omega (arith, ap number (((start_behaves (lent_for n board)).refused WouldMove).0 e).0)
never_would_move (Alloc n) board e = (((alloc_behaves (lent_of board) n).refused WouldMove).0 e).1
never_would_move (Free b) board e = (((free_behaves (lent_of board) b).refused WouldMove).0 e).1
never_would_move (Realloc b n) board e = (((realloc_behaves (lent_of board) b n).refused WouldMove).0 e).1
never_would_move Report board e = (((report_behaves (lent_of board)).refused WouldMove).0 e).1
never_would_move Malformed board e = omega arith

-- a refusal changes nothing: no word of the board, nor how many are lent
pub refused_keeps : (request : Request) (board : Board) → (outcome_of request board).answer.code ≢ 0 → (replied request board).board ≡ board
unfolding replied
refused_keeps request board refused = rw (ne_eqb _ _ refused)

-- a refusal's reply, and the board as it was
abbrev pub refused_for : Reason → Request → Board → Replied
refused_for why request board = record { reply = reply_text (kind_of request) (refusal (fields_of request) why); board = board }

-- a request that is refused for a reason comes to the reason's number, fields of 0, and the board as it was
pub refused_whole : (why : Reason) (request : Request) (board : Board) → (outcome_of request board).answer.code ≡ number why
    → replied request board ≡ refused_for why request board
unfolding replied
refused_whole why request board given =
    let refused : (outcome_of request board).answer.code ≢ 0 = λ none. omega (arith, number_positive why) in
    ap₂ (λ (reply : List ℕ) (after : Board). record { reply = reply; board = after })
    (ap (reply_text (kind_of request)) (ap₂ numbers given (refused_fields request board refused)))
    (refused_keeps request board refused)

-- where no words are lent, every request but a start and a malformed line is refused for the length
pub unstarted : (request : Request) (board : Board) → board.lent ≡ 0 → 2 ≤ kind_of request → replied request board ≡ refused_for Length request board
unfolding outcome_of
unstarted request board none calls = refused_whole Length request board (go request calls)
  where
    short : lawful (length (lent_of board)) ≡ false
    short = rw none

    go : (request : Request) → 2 ≤ kind_of request → (outcome_of request board).answer.code ≡ number Length
    go (Start n) calls = absurd (omega arith)
    go (Alloc n) calls = ((alloc_behaves (lent_of board) n).refused Length).1 short
    go (Free b) calls = ((free_behaves (lent_of board) b).refused Length).1 short
    go (Realloc b n) calls = ((realloc_behaves (lent_of board) b n).refused Length).1 short
    go Report calls = ((report_behaves (lent_of board)).refused Length).1 short
    go Malformed calls = absurd (omega arith)

-- so is a start with more words than the board has
pub start_too_long : (n : ℕ) (board : Board) → length board.words < n → replied (Start n) board ≡ refused_for Length (Start n) board
unfolding outcome_of
start_too_long n board more =
    refused_whole Length (Start n) board (((start_behaves (lent_for n board)).refused Length).1 (refl, rw (lt-leb _ _ more)))
