-- `places::find` meets its contract. The loop's invariant: the chunks from `chunk` on are left, and `link` is the
-- second word of the last free one before them, or the list's first word.
-- The measure is what is left of the words.
use Prim.Native.Nat.{◌-◌}
use mathlib.Core.List.{List}
use lib.ListN.{length}
use Rattle.layout.specs.Chunks.{Chunk}
use Rattle.passes.proofs.Searching.{Going}
use Rattle.passes.proofs.places.find.Given as goal

abbrev pub invariant-loop-chunk : goal.invariant-loop-chunk
invariant-loop-chunk l = (ks : List Chunk) × Going l.a l.b l.link l.chunk ks

abbrev pub decreases-loop-chunk : goal.decreases-loop-chunk
decreases-loop-chunk l = length l.a - l.chunk
