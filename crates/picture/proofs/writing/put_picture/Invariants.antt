-- The loop's invariant: the first bytes, and the frames of the words that are still to come, are the picture.
use Prim.Native.Nat.{◌*◌}
use mathlib.Core.Path.{◌≡◌}
use Rattle.std.specs.Slice.Iter.{chunks_rest, chunks_size}
use Rattle.rules.specs.Pictures.{frame_words}
use Rattle.picture.proofs.LineByLine.{Drawing}
use Rattle.picture.proofs.writing.put_picture.Given as goal

abbrev pub invariant-loop-k : goal.invariant-loop-k
invariant-loop-k l =
    let to_come = l.k-iterator.iter in
    (chunks_size to_come ≡ frame_words)
    × Drawing l.words l.initial.text l.initial.at l.text l.at (l.k-iterator.count * frame_words) (chunks_rest to_come)
