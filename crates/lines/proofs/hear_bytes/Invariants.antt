-- The loop of `hear_bytes`: the board's words are the caller's still, and the first bytes have been heard.
use Rattle.std.proofs.Common.{◌≡◌, take}
use Rattle.replies.specs.Boards.{lending}
use Rattle.lines.specs.OneByte.{HearsBytes}
use Rattle.lines.proofs.hear_bytes.Given as goal

abbrev pub invariant-loop-b : goal.invariant-loop-b
invariant-loop-b l =
    let first = l.initial in
    (l.board.words.ghost_name ≡ first.board.words.ghost_name)
    × HearsBytes first.place (lending first.board.words.now first.board.lent) (take l.b-index l.bytes) first.out
    l.place l.board.lent l.end l.board.words.now l.out
