-- `put` meets its contract: each step puts the last digit of what is left.
use Rattle.std.proofs.Common.{◌-◌, ◌≡◌, ◌∙◌, suc, arith}
use Rattle.digits.specs.Digits.{digits_of}
use Rattle.digits.proofs.Putting.{digits_count, last_first}
use Rattle.digits.proofs.put.Goals as goal

pub loop-i-preserved : goal.loop-i-preserved
loop-i-preserved g c =
    let more = c.loop-i.i - 1 in
    let e : c.loop-i.i ≡ suc more = omega arith in
    rw (c.glyph.ensures) (last_first more c.loop-i.rest c.loop-i.out c.args.at ∙ rw e at c.loop-i.invariant)

pub returns : goal.returns
unfolding digits_of
returns g c =
    let none : c.loop-i.i ≡ 0 = omega arith in
    record { ends = rw digits_count; says = rw none at c.loop-i.invariant }
