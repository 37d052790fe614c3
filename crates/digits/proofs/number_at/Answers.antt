-- `number_at` meets its contract: each byte makes one digit more, and eight of them fit.
use Rattle.std.proofs.Common.{◌+◌, ◌≤◌, arith}
use Rattle.digits.specs.NumbersFound.{most_of}
use Rattle.digits.proofs.NumbersFound.{most_grows, found_on}
use Rattle.digits.proofs.number_at.Goals as goal

pub overflow_add-number : goal.overflow_add-number
overflow_add-number g c =
    let i = c.loop-b.b-index in
    let most : most_of (i + 1) ≤ most_of 8 = most_grows (i + 1) 8 (omega arith) in
    let next = found_on _ _ _ c.loop-b-test.true c.loop-b.invariant in
    record { fits = rw c.worth.ensures (omega (arith, most, next.bounded)) }

pub loop-b-preserved : goal.loop-b-preserved
loop-b-preserved g c = rw c.worth.ensures (found_on _ _ _ c.loop-b-test.true c.loop-b.invariant)
