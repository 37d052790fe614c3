-- `matches` meets its contract: a byte of each is compared, and the rest is left.
use Rattle.std.proofs.Common.{◌&&◌, sym, ap, ◌∙◌, arith}
use mathlib.Core.Bool.{Bool, and-true}
use Rattle.frames.proofs.Lines.{same_next, same_ended}
use Rattle.frames.proofs.matches.Goals as goal

pub loop-i-preserved : goal.loop-i-preserved
loop-i-preserved c =
    let l = c.loop-i in
    rw c.upper.ensures (l.invariant ∙ same_next c.args.part.now c.args.expected.now l.i l.alike (omega arith) (omega arith))

pub returns : goal.returns
returns c =
    let x = c.args in
    sym
    (c.loop-i.invariant
    ∙ ap (λ (rest : Bool). c.loop-i.alike && rest) (same_ended x.part.now x.expected.now c.loop-i.i (omega arith) (omega arith))
    ∙ and-true c.loop-i.alike)
