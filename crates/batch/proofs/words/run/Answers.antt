-- `batch::words::run` meets its contract: in each turn one record is filled, and behind the last there are fewer words
-- than a record has.
use Rattle.std.proofs.Common.{◌≡◌, ◌*◌, ◌+◌, ◌-◌, ◌≤◌, ◌∙◌, length, arith, rules}
use Rattle.batch.proofs.SixWords.{stepped, stopped}
use Rattle.batch.proofs.words.run.Goals as goal

pub loop-record-preserved : goal.loop-record-preserved
loop-record-preserved c =
    let loop = c.loop-record in
    let inv = loop.invariant in
    let same : length c.put_answer.new.records ≡ length loop.records = search rules in
    let kept : length c.serve-served.new.a ≡ length loop.a = search rules in
    let next : (loop.record + 1) * 6 ≡ loop.record * 6 + 6 = omega arith in
    let room : 6 ≤ length loop.records - loop.record * 6 = omega (arith, c.loop-record-test.true, inv.1) in
    (kept ∙ inv.0, same ∙ inv.1, rw (next, c.put_answer.ensures) (stepped inv.2 room c.serve-served.ensures))

pub returns : goal.returns
returns c =
    let loop = c.loop-record in
    stopped loop.invariant.2 (omega (arith, c.loop-record-test.false, loop.invariant.1, loop.auto))
