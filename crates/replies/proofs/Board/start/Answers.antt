-- `start` meets its contract: too few words, a start that is refused, or one that is done.
use Rattle.std.proofs.Common.{rules, refl}
use Rattle.replies.proofs.Answering.{start_lends_none, start_lends_refused, start_lends}
use Rattle.replies.proofs.Board.start.Goals as goal

pub returns-then-self-n-clause-made : goal.returns-then-self-n-clause-made
returns-then-self-n-clause-made c =
    let board = c.args.self.now in
    start_lends_none board.words.now c.args.n board.lent c.if-self-n.true board.lendable refl

pub returns-in_err-start-clause-made : goal.returns-in_err-start-clause-made
returns-in_err-start-clause-made c =
    let board = c.args.self.now in
    start_lends_refused board.words.now c.args.n board.lent _ _ c.if-self-n.false board.lendable
    (rw c.in_err-start.was at c.start.ensures) (search rules)

pub returns-clause-made : goal.returns-clause-made
returns-clause-made c =
    let board = c.args.self.now in
    start_lends board.words.now c.args.n board.lent _ c.if-self-n.false (search rules)
    (rw c.in_ok-start.was at c.start.ensures) refl
