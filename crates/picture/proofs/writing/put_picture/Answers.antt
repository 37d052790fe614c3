-- `put_picture` meets its contract: the first line is put, and each step puts the frame of the next words.
use Rattle.std.proofs.Common.{◌≡◌, ◌*◌, ◌+◌, ◌∙◌, [], arith}
use Rattle.digits.proofs.Putting.{put_length}
use Rattle.rules.specs.Pictures.{line_length}
use Rattle.frames.proofs.Lines.{line_ends}
use Rattle.picture.proofs.LineByLine.{drawing_room, drawing_next, drawing_ends, frames_room}
use Rattle.picture.proofs.writing.put_picture.Goals as goal

pub put_line-at-requires-in-loop-k : goal.put_line-at-requires-in-loop-k
put_line-at-requires-in-loop-k c =
    let words = c.args.words.now in
    let first = c.put_line-at in
    let first_line : first.result ≡ line_length 0 = line_ends _ _ [] first.ensures in
    let (size, (split, count, some)) = c.in-Some.ensures.steps.0 in
    drawing_room _ _ _ c.loop-k.invariant.1 _ _ split some (omega (arith, frames_room words first.result first_line, put_length first.ensures))

pub loop-k-preserved : goal.loop-k-preserved
loop-k-preserved c =
    let ((size, (split, count, some)), k, next, fits) = c.in-Some.ensures.steps in
    let further : (c.loop-k.k-iterator.count + 1) * 8 ≡ c.loop-k.k-iterator.count * 8 + 8 = omega arith in
    let few = rw c.loop-k.invariant.0 at count in (
      size ∙ c.loop-k.invariant.0,
      rw (next, further) (drawing_next _ _ _ c.loop-k.invariant.1 _ _ split (some, few) (rw k at c.put_line-at-in-loop-k.ensures)),
    )

pub returns : goal.returns
returns c =
    let (size, (none, same)) = c.in-None.ensures.steps.0 in
    drawing_ends _ _ _ c.loop-k.invariant.1 none c.put_line-at.ensures
