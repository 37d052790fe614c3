-- `hear_byte` meets its contract: the end of a line, or one more byte of it.
use Rattle.lines.proofs.Hearing.{end_heard, more_heard}
use Rattle.lines.proofs.hear_byte.Goals as goal

pub returns-then-b-eq10-clause-heard : goal.returns-then-b-eq10-clause-heard
returns-then-b-eq10-clause-heard c =
    rw (c.if-b-eq10.true, c.at_start.ensures) (end_heard _ _ _ _ _ _ _ _ (rw c.request_at.ensures at c.answer-end.ensures.answered))

pub returns-clause-heard : goal.returns-clause-heard
returns-clause-heard c = rw c.onward.ensures (more_heard _ _ _ _ _ _ c.if-b-eq10.false c.args.board.now.lendable)
