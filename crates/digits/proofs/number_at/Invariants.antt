-- The loop's invariant: the bytes read so far make the number, which is no more than so many bytes can make.
use Rattle.digits.specs.NumbersFound.{NumberAt, most_of}
use Rattle.digits.proofs.number_at.Given as goal

abbrev pub invariant-loop-b : goal.invariant-loop-b
invariant-loop-b g l = NumberAt l.b-items 0 l.b-index (most_of l.b-index) l.number
