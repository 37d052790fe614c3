-- The loop's invariant: the bytes stored so far, and those of the words from `i`
-- on, are those of all the words.
use Prim.Native.Nat.{◌*◌}
use lib.ListN.{drop}
use Rattle.spelling.specs.Words.{bytes_of}
use Rattle.spelling.proofs.Filling.{Filling}
use Rattle.spelling.proofs.store.Given as goal

abbrev pub invariant-loop-i : goal.invariant-loop-i
invariant-loop-i l = Filling l.initial.bytes l.bytes (4 * l.i) (bytes_of (drop l.i l.words)) (bytes_of l.words)
