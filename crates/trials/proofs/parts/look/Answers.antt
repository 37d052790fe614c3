-- `look` meets its contract: the part has room for the block's words, which `view` hands back.
use Rattle.std.proofs.Common.{arith}
use Rattle.trials.proofs.Trials.{viewed_short}
use Rattle.trials.proofs.parts.look.Goals as goal

pub copy-requires : goal.copy-requires
copy-requires c = omega (arith, viewed_short c.view.ensures)
