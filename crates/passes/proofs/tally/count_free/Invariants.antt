-- `tally::count_free` meets its contract. The loop's invariant: a link names `chunk`, and from there on the links lead
-- through what is left of the free list.
-- The measure is how many free chunks are left.
use Prim.Native.Nat.{ℕ, ◌-◌}
use mathlib.Core.Path.{◌≡◌}
use mathlib.Core.List.{List}
use lib.ListN.{get_or}
use Rattle.layout.specs.Walk.{chunks_of}
use Rattle.rules.specs.Rules.{free_chunks}
use Rattle.passes.proofs.Tallying.{CountingFree}
use Rattle.passes.proofs.tally.count_free.Given as goal

abbrev pub invariant-loop-chunk : goal.invariant-loop-chunk
invariant-loop-chunk l = (link : ℕ) × (list : List (ℕ × ℕ)) × (l.chunk ≡ get_or l.a link 0) × CountingFree l.a l.words l.largest l.chunks link list

abbrev pub decreases-loop-chunk : goal.decreases-loop-chunk
decreases-loop-chunk l = free_chunks (chunks_of l.a) - l.chunks
