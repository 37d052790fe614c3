-- `release::room_at` meets its contract: the bounds follow from the words of the chunk (`around`), and the room is read
-- with a free chunk right after it, or alone.
use Rattle.std.proofs.Common.{arith}
use Rattle.stores.proofs.RoomReading.{Around, around, room_beside, room_alone}
use Rattle.stores.proofs.release.room_at.Goals as goal
use Rattle.stores.proofs.release.room_at.Goals.{Start}

-- the live chunk, in numbers
here : (c : Start) → Around c.args.a.now c.args.place.link c.args.place.chunk
here c = around _ _ _ c.requires

pub offset_bounds-a-place : goal.offset_bounds-a-place
offset_bounds-a-place c = omega (arith, here (goal.at.offset_bounds-a-place c).Start)

pub bounds-a-place : goal.bounds-a-place
bounds-a-place c = omega (arith, here (goal.at.bounds-a-place c).Start)

pub offset_bounds-a-place-2 : goal.offset_bounds-a-place-2
offset_bounds-a-place-2 c = omega (arith, here (goal.at.offset_bounds-a-place-2 c).Start)

pub bounds-a-place-2 : goal.bounds-a-place-2
bounds-a-place-2 c = omega (arith, here (goal.at.bounds-a-place-2 c).Start)

pub bounds-a-next : goal.bounds-a-next
bounds-a-next c =
    let h = here (goal.at.bounds-a-next c).Start in
    let j = h.next_room c.if-next-place.true in
    omega arith

pub bounds-a-next-then-next-place : goal.bounds-a-next-then-next-place
bounds-a-next-then-next-place c =
    let h = here (goal.at.bounds-a-next-then-next-place c).Start in
    let j = h.next_room c.if-next-place.true in
    omega arith

pub returns-then-next-place : goal.returns-then-next-place
returns-then-next-place c pre s asked post st = (room_beside st c.if-next-place.true).2

pub returns : goal.returns
returns c pre s asked post st = room_alone st c.if-next-place.false
