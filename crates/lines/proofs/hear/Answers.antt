-- `hear` meets its contract: all that can be answered is heard.
use Rattle.std.proofs.Common.{arith, rules}
use lib.ListN.{length-take}
use Rattle.lines.proofs.Hearing.{answerable_taken, all_heard}
use Rattle.lines.proofs.hear.Goals as goal

pub returns : goal.returns
returns c =
    let x = c.args in
    let most = c.min-most.ensures in
    let long = length-take c.min-most.result x.piece.now in
    rw (← answerable_taken x.piece.now x.out.now _ most, ← c.min-lent.ensures)
    (all_heard _ _ _ _ _ _ _ (omega (arith, long, most)) (omega (arith, long, most)) (search rules))
