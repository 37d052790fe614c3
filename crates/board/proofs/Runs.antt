-- Turn after turn: what was read is heard, and the replies to it are written.
use Prim.Native.Nat.{ℕ, ◌*◌, ◌≤◌, ◌<◌}
use mathlib.Core.Path.{ap, subst}
use mathlib.Core.List.{List, [], ◌++◌}
use native.Mathlib.Omega.{arith}
use lib.ListN.{length, take, length-take}
use Rattle.std.specs.Prelude.{Option, IfSome}
use Rattle.std.specs.Io.KnownBytes.{Appends, Consumes}
use Rattle.std.proofs.KnownBytes.{Consumes-nil, Consumes-trans, Consumes-whole, Appends-nil, Appends-trans}
use Rattle.requests.specs.declared.Place.{Place}
use Rattle.replies.specs.Boards.{lending, longest_reply, Replied}
use Rattle.lines.specs.Texts.{means}
use Rattle.lines.specs.Pieces.{board_of, nothing_heard, ending}
use Rattle.lines.specs.Sessions.{Session, begun, next}
use Rattle.lines.specs.declared.Heard.{Heard}
use Rattle.lines.proofs.Hearing.{heard_whole, ending_short}
use Rattle.lines.proofs.Sessions.{session_means}
use Rattle.board.specs.Turns.{Continues, Finishes}

-- from the words `start` on: a text was read, which left the reader so, and all that was said to it is written
pub record SoFar (start : List ℕ) (left left' held held' : Option (List ℕ)) (place : Place) (lent : ℕ) (words : List ℕ) : Type 0 where
  pub said : List ℕ
  pub text : List ℕ
  pub session : Session start place lent words said text
  pub reads : Consumes left left' text
  pub writes : Appends held held' said

pub nothing_yet : (start : List ℕ) (left held : Option (List ℕ)) → SoFar start left left held held nothing_heard.place nothing_heard.lent start
nothing_yet start left held =
    record { said = []; text = []; session = begun; reads = Consumes-nil left; writes = Appends-nil held }

-- a turn that goes on
pub turn_on : {start words words' piece room text : List ℕ} {left left' left'' held held' held'' : Option (List ℕ)} {place : Place} {lent : ℕ} {heard : Heard}
    → length piece * longest_reply ≤ length room → SoFar start left left' held held' place lent words
    → Continues place (board_of words lent) piece room heard words' text left' left'' held' held''
    → SoFar start left left'' held held'' heard.place heard.lent words'
turn_on {start} {words' = words'} {piece = piece} {room = room} {text = text} {heard = heard} roomy so on =
    let came = take heard.taken piece in
    let whole = heard_whole came room (omega (arith, roomy, length-take heard.taken piece)) in
    let said = so.said ++ take heard.written text in
    record {
      said = said;
      text = so.text ++ came;
      session =
          subst (λ (bytes : List ℕ). Session start heard.place heard.lent words' said (so.text ++ bytes)) whole
          (next so.session came room heard words' text (rw whole on.hears));
      reads = Consumes-trans _ _ _ _ _ so.reads on.reads;
      writes = Appends-trans _ _ _ _ _ so.writes on.writes;
    }

-- the last turn
pub turn_last : {start words words' piece room text : List ℕ} {left left' held held' held'' : Option (List ℕ)} {place : Place} {lent : ℕ} {heard : Heard}
    → longest_reply ≤ length room → SoFar start left left' held held' place lent words
    → Finishes place (board_of words lent) piece room heard words' text left' held' held''
    → 0 < length piece → IfSome left (λ all. Appends held held'' (means all (lending start 0)).reply)
turn_last {start} {words' = words'} {room = room} {text = text} {held = held} {held'' = held''} {place = place} {heard = heard} roomy so last some =
    let whole = heard_whole (ending place) room (omega (arith, roomy, ending_short place)) in
    let meant = session_means so.session room heard words' text roomy (rw whole last.hears) in
    Consumes-whole _ _ so.text (λ all. Appends held held'' (means all (lending start 0)).reply) so.reads (last.reads some)
    (rw (← ap (λ (to : Replied). to.reply) meant) (Appends-trans _ _ _ _ _ so.writes last.writes))
