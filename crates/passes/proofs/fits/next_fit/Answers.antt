-- `fits::next_fit` meets its contract: what lies from the rover on or, where nothing does, what first fit finds.
use Rattle.std.proofs.Common.{of_calls}
use Rattle.layout.specs.Walk.{chunks_of}
use Rattle.passes.proofs.Finding.{found_next}
use Rattle.passes.proofs.fits.next_fit.Goals as goal

pub returns : goal.returns
returns c = found_next c.args.rover c.args.need (chunks_of c.args.a.now) _ _ c.lowest_fit.ensures (λ round. search of_calls) c.or_else.ensures
