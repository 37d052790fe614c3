-- The loop's invariant: the numbers before the next one are put.
use lib.ListN.{take}
use Rattle.digits.specs.Digits.{digits_of, in_digits}
use Rattle.digits.specs.Putting.{Puts}
use Rattle.digits.proofs.put_all.Given as goal

abbrev pub invariant-loop-v : goal.invariant-loop-v
invariant-loop-v g l = Puts l.at (in_digits (digits_of g.row.DIGITS) (take l.v-index l.numbers)) l.initial.out l.end l.out
