-- `pass_live` meets its contract: behind a live chunk the walk comes to the next place.
use mathlib.Core.Path.{refl, sym}
use Rattle.walk.proofs.Steps.{one_further}
use Rattle.walk.proofs.Walk.pass_live.Goals as goal

pub loop-self-preserved : goal.loop-self-preserved
loop-self-preserved c = one_further c.loop-self.invariant c.in-Some.ensures (sym c.if-not-is_live.ensures) refl refl refl
