-- `fits::best_fit` meets its contract. The loop's invariant: from word `link` on the links lead through what is left of
-- the free list, in which a chunk may undercut the best so far.
-- The measure is what is left of the words.
use Prim.Native.Nat.{ℕ, ◌-◌}
use mathlib.Core.List.{List}
use lib.ListN.{length}
use Rattle.passes.proofs.Undercutting.{Undercutting}
use Rattle.passes.proofs.fits.best_fit.Given as goal

abbrev pub invariant-loop-least : goal.invariant-loop-least
invariant-loop-least l = (list : List (ℕ × ℕ)) × Undercutting l.a l.need l.least l.best l.link list

abbrev pub decreases-loop-least : goal.decreases-loop-least
decreases-loop-least l = length l.a - l.link
