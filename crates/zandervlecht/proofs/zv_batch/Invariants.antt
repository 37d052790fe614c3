-- The records before the place are filled.
use Rattle.zandervlecht.proofs.Filling.{Stands}
use Rattle.zandervlecht.proofs.zv_batch.Given as goal

abbrev pub invariant-loop-request : goal.invariant-loop-request
invariant-loop-request l = Stands l.initial.a l.initial.requests l.a l.requests l.request-index
