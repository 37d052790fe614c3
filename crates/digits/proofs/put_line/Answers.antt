-- `put_line` meets its contract: kind, number, words and the line's end, each behind the one before.
use Rattle.std.proofs.Common.{arith}
use Rattle.digits.proofs.Putting.{numbers_end, put_length, puts_line}
use Rattle.digits.proofs.put_line.Goals as goal

pub bounds-out-end : goal.bounds-out-end
bounds-out-end g c =
    omega (arith, numbers_end g.row.WORD c.args.words.now c.put_all-end.ensures, put_length c.put-2.ensures, put_length c.put.ensures)

pub overflow_add-result : goal.overflow_add-result
overflow_add-result g c =
    record { fits = omega (arith, numbers_end g.row.WORD c.args.words.now c.put_all-end.ensures, put_length c.put-2.ensures, put_length c.put.ensures) }

pub returns : goal.returns
returns g c = puts_line _ _ _ _ _ _ _ _ _ _ _ c.put.ensures c.put-2.ensures c.put_all-end.ensures
