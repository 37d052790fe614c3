-- `taking::take` meets its contract: the bounds follow from the words of the chunk (`gap`), and the stores are those
-- that take it (`took_whole`, `took_split`).
use Rattle.std.proofs.Common.{arith}
use Rattle.stores.proofs.Taken.{Gap, gap, took_whole, took_split}
use Rattle.stores.proofs.taking.take.Goals as goal
use Rattle.stores.proofs.taking.take.Goals.{Start}

-- the free chunk, in numbers
here : (c : Start) → Gap c.args.a.now c.args.place.link c.args.place.chunk c.args.ask.need c.args.ask.asked
here c = gap _ _ _ _ _ c.requires

pub offset_bounds-a-chunk : goal.offset_bounds-a-chunk
offset_bounds-a-chunk c = omega (arith, here (goal.at.offset_bounds-a-chunk c).Start)

pub bounds-a-chunk : goal.bounds-a-chunk
bounds-a-chunk c = omega (arith, here (goal.at.bounds-a-chunk c).Start)

pub overflow_add-next : goal.overflow_add-next
overflow_add-next c = omega (arith, here (goal.at.overflow_add-next c).Start)

pub offset_bounds-a-chunk-2 : goal.offset_bounds-a-chunk-2
offset_bounds-a-chunk-2 c = omega (arith, here (goal.at.offset_bounds-a-chunk-2 c).Start)

pub bounds-a-chunk-2 : goal.bounds-a-chunk-2
bounds-a-chunk-2 c = omega (arith, here (goal.at.bounds-a-chunk-2 c).Start)

pub overflow_sub-rest : goal.overflow_sub-rest
overflow_sub-rest c = (here (goal.at.overflow_sub-rest c).Start).enough

pub change-requires : goal.change-requires
change-requires c = omega (arith, here (goal.at.change-requires c).Start)

pub put_live-requires : goal.put_live-requires
put_live-requires c = omega (arith, here (goal.at.put_live-requires c).Start)

pub returns-then-rest-lt-LEAST_SPLIT : goal.returns-then-rest-lt-LEAST_SPLIT
returns-then-rest-lt-LEAST_SPLIT c pre s post st =
    rw (c.put_live.ensures, c.change.ensures) (took_whole _ _ st c.if-rest-lt-LEAST_SPLIT.true)

pub put-requires : goal.put-requires
put-requires c = omega (arith, here (goal.at.put-requires c).Start)

pub put_live-requires-2 : goal.put_live-requires-2
put_live-requires-2 c = omega (arith, here (goal.at.put_live-requires-2 c).Start)

pub returns : goal.returns
returns c pre s post st =
    let h = here (goal.at.returns c).Start in
    rw (c.put_live-2.ensures, c.put.ensures)
    (took_split _ _ st c.requires.5 h.enough c.if-rest-lt-LEAST_SPLIT.false)
