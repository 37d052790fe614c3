-- `answer` meets its contract: what the call answered is put as a reply.
use Rattle.std.proofs.Common.{length}
use Rattle.replies.proofs.Answering.{numbers_fit, answered}
use Rattle.replies.proofs.Board.answer.Goals as goal

pub put_reply-requires : goal.put_reply-requires
put_reply-requires c = numbers_fit c.make-numbers.ensures.made c.args.at (length c.args.out.now) c.requires

pub returns-clause-answered : goal.returns-clause-answered
returns-clause-answered c = answered c.make-numbers.ensures.made (rw c.kind.ensures at c.put_reply.ensures)
