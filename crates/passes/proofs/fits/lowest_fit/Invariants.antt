-- `fits::lowest_fit` meets its contract. The loop's invariant: from word `link` on the links lead through what is left
-- of the free list, in which the first chunk is looked for that starts at word `from` or above and fits.
-- The measure is what is left of the words.
use Prim.Native.Nat.{ℕ, ◌-◌}
use mathlib.Core.List.{List}
use lib.ListN.{length}
use Rattle.rules.specs.Fits.{fits_from}
use Rattle.passes.proofs.Searching.{Seeking}
use Rattle.passes.proofs.fits.lowest_fit.Given as goal

abbrev pub invariant-loop-from : goal.invariant-loop-from
invariant-loop-from l = (list : List (ℕ × ℕ)) × Seeking l.a (fits_from l.from l.need) l.link list

abbrev pub decreases-loop-from : goal.decreases-loop-from
decreases-loop-from l = length l.a - l.link
