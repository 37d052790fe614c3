-- `release::release` meets its contract: the bounds follow from the words of the chunk and of its room, and the stores
-- are those that free it (`releases`).
use Rattle.std.proofs.Common.{Some, None, sym, ◌∙◌, arith}
use Rattle.layout.specs.Chunks.{live}
use Rattle.passes.proofs.Standing.{Reads, reads}
use Rattle.stores.proofs.RoomReading.{Bounds, bounds}
use Rattle.stores.proofs.Releasing.{before_link, releases}
use Rattle.stores.proofs.release.release.Goals as goal
use Rattle.stores.proofs.release.release.Goals.{After-room_at-words}

-- the chunk and its room, in numbers
here : (c : After-room_at-words) → let l = c.requires in
    Reads c.args.a.now l.0 (live l.1 l.2) l.3 c.args.place.link c.args.place.chunk
    × Bounds c.args.a.now l.1 l.3 c.args.place.chunk c.room_at-words.result
here c =
    let l = c.requires in
    (reads _ _ _ _ _ _ l.4, bounds l.4 (c.room_at-words.ensures _ _ _ _ l.4))

pub free_before-requires : goal.free_before-requires
free_before-requires c = omega (arith, here (goal.at.free_before-requires c).After-room_at-words)

pub overflow_sub-place : goal.overflow_sub-place
overflow_sub-place c =
    omega (arith, here (goal.at.overflow_sub-place c).After-room_at-words, before_link _ _ _ _ (sym c.free_before.ensures ∙ c.in-Some.is))

pub overflow_add-place : goal.overflow_add-place
overflow_add-place c = omega (arith, here (goal.at.overflow_add-place c).After-room_at-words)

pub put-requires : goal.put-requires
put-requires c =
    omega (arith, here (goal.at.put-requires c).After-room_at-words, before_link _ _ _ _ (sym c.free_before.ensures ∙ c.in-Some.is))

pub returns-in-Some : goal.returns-in-Some
returns-in-Some c pre s asked post st =
    c.put.ensures
    ∙ releases st (c.room_at-words.ensures pre s asked post st) (Some c.in-Some.left) (sym c.free_before.ensures ∙ c.in-Some.is)

pub change-requires : goal.change-requires
change-requires c = omega (arith, here (goal.at.change-requires c).After-room_at-words)

pub put-requires-in-None : goal.put-requires-in-None
put-requires-in-None c = omega (arith, here (goal.at.put-requires-in-None c).After-room_at-words)

pub returns-in-None : goal.returns-in-None
returns-in-None c pre s asked post st =
    rw (c.put-in-None.ensures, c.change.ensures)
    (releases st (c.room_at-words.ensures pre s asked post st) None (sym c.free_before.ensures ∙ c.in-None.is))
