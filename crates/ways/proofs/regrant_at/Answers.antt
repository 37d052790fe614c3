-- `regrant_at` meets its contract: the block stays or, where it cannot, nothing has changed, and it moves.
use Rattle.ways.proofs.Following.{regrants_elsewhere}
use Rattle.ways.proofs.regrant_at.Goals as goal

pub returns-in-None : goal.returns-in-None
returns-in-None c = regrants_elsewhere c.args.ask.need c.args.ask.asked c.requires.0 c.in-None.ensures c.relocate_at.ensures
