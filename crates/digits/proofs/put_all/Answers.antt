-- `put_all` meets its contract: each step puts one number more, behind those before it.
use Rattle.std.proofs.Common.{arith}
use Rattle.digits.specs.Digits.{digits_of}
use Rattle.digits.proofs.Putting.{in_next, puts_then, room_left}
use Rattle.digits.proofs.put_all.Goals as goal

pub put-requires : goal.put-requires
put-requires g c = omega (arith, room_left g.row.DIGITS _ _ c.loop-v-test.true c.loop-v.invariant)

pub overflow_add-end : goal.overflow_add-end
overflow_add-end g c = record { fits = omega (arith, room_left g.row.DIGITS _ _ c.loop-v-test.true c.loop-v.invariant) }

pub loop-v-preserved : goal.loop-v-preserved
loop-v-preserved g c =
    rw (in_next (digits_of g.row.DIGITS) _ _ c.loop-v-test.true) (puts_then _ _ _ _ _ _ _ _ c.loop-v.invariant c.put.ensures)
