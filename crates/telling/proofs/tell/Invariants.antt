-- The loop's invariant: the first fields of the array are those of the answer.
use mathlib.Core.Path.{◌≡◌}
use lib.ListN.{length, take}
use Rattle.telling.proofs.tell.Given as goal

abbrev pub invariant-loop-i : goal.invariant-loop-i
invariant-loop-i g l = (length l.fields ≡ length l.initial.fields) × (take l.i l.fields ≡ take l.i l.numbers.fields)
