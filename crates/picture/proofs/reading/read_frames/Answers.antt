-- `read_frames` meets its contract: a frame that is not there decides, one that is there leaves it to the rest.
use Prim.Native.Nat.{min}
use Rattle.std.proofs.Common.{◌≡◌, ◌+◌, ◌-◌, ◌*◌, refl, arith}
use Rattle.rules.proofs.Frames.{NextFrame}
use Rattle.picture.specs.Decoding.{ReadsFrame}
use Rattle.picture.proofs.Parts.{part_length}
use Rattle.picture.proofs.FrameByFrame.{Reading, reading_fails, reading_next, reading_ends, reading_failed}
use Rattle.picture.proofs.reading.read_frames.Goals as goal
use Rattle.picture.proofs.reading.read_frames.Goals.{After-read_frame}

-- words are left where a frame is read
here : (c : After-read_frame) → Reading c.args.text.now c.args.n c.args.buffer.now c.loop-k.buffer c.loop-k.at (c.loop-k.k * 8)
here c = let e : min (c.loop-k.k * 8) c.args.n ≡ c.loop-k.k * 8 = omega arith in rw e at c.loop-k.invariant

next : (c : After-read_frame) → NextFrame (c.args.n - c.loop-k.k * 8) c.min-count.result
next c = (omega arith, c.min-count.ensures)

frame_read : (c : After-read_frame)
    → ReadsFrame c.args.text.now c.loop-k.at (c.loop-k.k * 8) c.min-count.result c.read_frame.result c.read_frame.new.words
frame_read c = rw (part_length c.loop-k.buffer c.slot_for-slot.result c.min-count.result c.slot_for-slot.ensures.lies) at c.read_frame.ensures

pub returns-then-not-read_frame : goal.returns-then-not-read_frame
returns-then-not-read_frame c =
    let it = (goal.at.returns-then-not-read_frame c).After-read_frame in
    reading_failed _ _ (reading_fails _ _ _ (here it) _ (next it) (frame_read it) c.if-not-read_frame.true)

pub loop-k-preserved : goal.loop-k-preserved
loop-k-preserved c =
    let it = (goal.at.loop-k-preserved c).After-read_frame in
    let on : min ((c.loop-k.k + 1) * 8) c.args.n ≡ c.loop-k.k * 8 + c.min-count.result = omega (arith, c.min-count.ensures) in
    rw (on, c.line_length-at-in-loop-k.ensures)
    (reading_next _ _ _ (here it) _ (next it) (frame_read it) _ _ c.slot_for-slot.ensures refl c.if-not-read_frame.false)

pub returns : goal.returns
returns c = reading_ends _ _ _ c.loop-k.invariant (omega arith)
