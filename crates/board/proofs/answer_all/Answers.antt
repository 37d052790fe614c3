-- A turn that goes on comes after such turns alone; and so does the last.
use Rattle.std.proofs.Common.{◌≡◌, length, arith, refl, rules}
use Rattle.board.proofs.Runs.{nothing_yet, turn_on, turn_last}
use Rattle.board.proofs.answer_all.Goals as goal

pub loop-init : goal.loop-init
loop-init g c = record { piece = refl; out = refl; so_far = rw c.nothing_heard-heard.ensures (nothing_yet _ _ _) }

pub returns-in_default : goal.returns-in_default
returns-in_default g c =
    let out : length c.loop.out ≡ length c.args.out.now = c.loop.invariant.out in
    let piece : length c.loop.piece ≡ length c.args.piece.now = c.loop.invariant.piece in
    let last = rw c.in_default.is at c.in_ok-next.ensures.ended in
    λ some. turn_last (omega arith) c.loop.invariant.so_far (last refl).1 (omega arith)

pub loop-preserved : goal.loop-preserved
loop-preserved g c =
    let out : length c.loop.out ≡ length c.args.out.now = c.loop.invariant.out in
    let piece : length c.loop.piece ≡ length c.args.piece.now = c.loop.invariant.piece in
    record {
      piece = search rules;
      out = search rules;
      so_far = turn_on (omega arith) c.loop.invariant.so_far (rw c.in-Some.is at c.in_ok-next.ensures.goes_on);
    }
