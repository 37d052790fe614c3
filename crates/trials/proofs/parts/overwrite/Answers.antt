-- `overwrite` meets its contract: the part has room for the block's words, which `view_mut` hands back.
use Rattle.std.proofs.Common.{arith}
use Rattle.trials.proofs.Trials.{viewed_short}
use Rattle.trials.proofs.parts.overwrite.Goals as goal

pub copy-count-requires : goal.copy-count-requires
copy-count-requires c = omega (arith, viewed_short c.view_mut-block.ensures)
