-- What a session says and leaves is what its text means, wherever it was cut.
use Prim.Native.Nat.{ℕ, ◌≤◌, min}
use mathlib.Core.Path.{◌≡◌, refl, sym, ap, ◌∙◌}
use mathlib.Core.List.{List, ◌++◌}
use native.Mathlib.Omega.{arith}
use lib.ListN.{length, take, drop}
use lib.Seq.{take_at}
use Rattle.requests.specs.LinePlaces.{at_start}
use Rattle.requests.specs.declared.Place.{Place}
use Rattle.replies.specs.Boards.{Board, lending, longest_reply}
use Rattle.lines.specs.Texts.{means}
use Rattle.lines.specs.Pieces.{Hearing, hears, goes_on, unheard, ending, closed, board_of, answerable, HearsAll}
use Rattle.lines.specs.Sessions.{Session, begun, next}
use Rattle.lines.specs.declared.Heard.{Heard}
use Rattle.lines.proofs.Cutting.{hears_append}
use Rattle.lines.proofs.Hearing.{heard_whole, ending_short}
use Rattle.lines.proofs.Meaning.{whole_text}

-- what a call says is its replies
said_is : {place : Place} {on : Board} {bytes room words text : List ℕ} {heard : Heard} → HearsAll place on bytes room heard words text
    → take heard.written text ≡ (hears place on bytes).replies
said_is {place} {on} {bytes} {room} {words} {text} {heard} h =
    ap (take heard.written) h.says
    ∙ take_at (hears place on bytes).replies (drop (length (hears place on bytes).replies) room) heard.written (sym h.counts)

-- the board that the next call finds is the one that this call left
board_is : {place : Place} {on : Board} {bytes room words text : List ℕ} {heard : Heard} → HearsAll place on bytes room heard words text
    → board_of words heard.lent ≡ (hears place on bytes).board
board_is {place} {on} {bytes} {room} {words} {text} {heard} h =
    let all : min heard.lent (length words) ≡ heard.lent = omega (arith, h.lendable) in
    ap (lending words) (all ∙ h.lends) ∙ ap (λ (a : List ℕ). lending a (hears place on bytes).board.lent) h.stores

-- a call that hears these bytes goes on as they do
call_goes_on : (said : List ℕ) (place : Place) (on : Board) (bytes room words text : List ℕ) (heard : Heard)
    → HearsAll place on bytes room heard words text
    → goes_on (record { replies = said; place = place; board = on }) bytes
    ≡ record { replies = said ++ take heard.written text; place = heard.place; board = board_of words heard.lent }
call_goes_on said place on bytes room words text heard h = rw (said_is h, h.places, board_is h) refl

-- so far, the text has been heard
pub session_heard : {start : List ℕ} {place : Place} {lent : ℕ} {words said text : List ℕ} → Session start place lent words said text
    → hears at_start (lending start 0) text ≡ record { replies = said; place = place; board = board_of words lent }
unfolding hears
session_heard {start} begun =
    let none : min 0 (length start) ≡ 0 = omega arith in
    sym (ap (λ (n : ℕ). unheard (lending start n)) none)
session_heard {start} (next {place} {lent} {words} {said} {text} session piece room heard words' text' h) =
    hears_append at_start (lending start 0) text (answerable piece room)
    ∙ ap (λ (hearing : Hearing). goes_on hearing (answerable piece room)) (session_heard session)
    ∙ call_goes_on said place (board_of words lent) (answerable piece room) room words' text' heard h

-- once it is closed, a session has said, and leaves, what its text means
pub session_means : {start : List ℕ} {place : Place} {lent : ℕ} {words said text : List ℕ} → Session start place lent words said text
    → (room : List ℕ) (heard : Heard) (words' text' : List ℕ) → longest_reply ≤ length room
    → HearsAll place (board_of words lent) (answerable (ending place) room) room heard words' text'
    → record { reply = said ++ take heard.written text'; board = board_of words' heard.lent } ≡ means text (lending start 0)
session_means {start} {place} {lent} {words} {said} {text} session room heard words' text' roomy h =
    let whole = heard_whole (ending place) room (omega (arith, roomy, ending_short place)) in
    sym
    (sym (whole_text text (lending start 0))
    ∙ ap closed (session_heard session)
    ∙ ap (λ (hearing : Hearing). record { reply = hearing.replies; board = hearing.board })
    (call_goes_on said place (board_of words lent) (ending place) room words' text' heard (rw whole at h)))
