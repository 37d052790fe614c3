-- The loop's invariant: once the digits of what is left are put before byte `i`, all digits are put.
use Rattle.std.proofs.Common.{◌≡◌}
use lib.Seq.{sets}
use Rattle.digits.specs.Digits.{digits_of}
use Rattle.digits.proofs.put.Given as goal

abbrev pub invariant-loop-i : goal.invariant-loop-i
invariant-loop-i g l = sets l.out l.at (digits_of l.i l.rest) ≡ sets l.initial.out l.at (digits_of g.row.DIGITS l.v)
