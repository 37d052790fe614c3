-- The loop's invariant: whether the text has the frames of all words depends on the bytes from `at` on alone. The last
-- frame may be short, so that no more words than there are have been read.
use Prim.Native.Nat.{◌*◌, min}
use Rattle.rules.specs.Pictures.{frame_words}
use Rattle.picture.proofs.FrameByFrame.{Reading}
use Rattle.picture.proofs.reading.read_frames.Given as goal

abbrev pub invariant-loop-k : goal.invariant-loop-k
invariant-loop-k l = Reading l.text l.n l.initial.buffer l.buffer l.at (min (l.k * frame_words) l.n)
