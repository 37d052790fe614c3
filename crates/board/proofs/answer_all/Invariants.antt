-- The buffers keep their lengths; and what was read so far is answered.
use Rattle.std.proofs.Common.{◌≡◌, length}
use Rattle.board.proofs.Runs.{SoFar}
use Rattle.board.proofs.answer_all.Given as goal

abbrev pub invariant-loop : goal.invariant-loop
invariant-loop g l =
    let left = g.R.Read.remaining in
    let held = g.W.Write.contents in
    record {
      piece : length l.piece ≡ length l.initial.piece;
      out : length l.out ≡ length l.initial.out;
      so_far : SoFar l.initial.words (left l.initial.input) (left l.input) (held l.initial.output) (held l.output) l.heard.place l.heard.lent l.words;
    }
