-- The loop's invariant: the words stored so far, and those that the bytes from `4
-- * i` on spell, are those of all the bytes.
use Prim.Native.Nat.{◌*◌}
use lib.ListN.{drop}
use Rattle.spelling.specs.Words.{words_of}
use Rattle.spelling.proofs.Filling.{Filling}
use Rattle.spelling.proofs.load.Given as goal

abbrev pub invariant-loop-i : goal.invariant-loop-i
invariant-loop-i l = Filling l.initial.words l.words l.i (words_of (drop (4 * l.i) l.bytes)) (words_of l.bytes)
