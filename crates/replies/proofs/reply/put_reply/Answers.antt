-- `put_reply` meets its contract: request, code, fields and the line's end are the reply's text.
use Rattle.std.proofs.Common.{take, arith}
use lib.Seq.{length-take-le}
use Rattle.replies.proofs.ReplyTexts.{reply_is}
use Rattle.replies.proofs.reply.put_reply.Goals as goal

pub put_line-requires : goal.put_line-requires
put_line-requires c = omega (arith, length-take-le _ _ c.requires.0, c.requires.1)

pub returns : goal.returns
returns c =
    let x = c.args in
    rw (reply_is x.kind x.numbers.code (take x.numbers.count x.numbers.fields)) at c.put_line.ensures
