-- `zv_batch` meets its contract: in each turn the record at the place is answered, and behind the last all are filled.
use Rattle.std.proofs.Common.{[], refl, arith}
use Rattle.zandervlecht.proofs.Filling.{one_turn, at_end}
use Rattle.zandervlecht.proofs.zv_batch.Goals as goal

pub loop-request-init : goal.loop-request-init
loop-request-init c = ([], _, refl, refl, refl)

pub loop-request-preserved : goal.loop-request-preserved
loop-request-preserved c =
    let loop = c.loop-request in
    one_turn _ _ _ _ _ c.serve-served.result _ loop.invariant (omega (arith, c.loop-request-test.true, loop.auto)) c.serve-served.ensures

pub returns : goal.returns
returns c =
    let loop = c.loop-request in
    at_end _ _ _ _ _ loop.invariant (omega (arith, c.loop-request-test.false, loop.auto))
