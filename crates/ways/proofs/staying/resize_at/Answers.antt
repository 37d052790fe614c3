-- `resize_at` meets its contract: the room is too short, or the block keeps words of it, by the laws of a block that
-- stays where it is.
use Rattle.std.proofs.Common.{ℕ, List, length, ◌≡◌, ◌≤◌, ap, ◌∙◌, arith}
use Rattle.std.specs.Prelude.{Some}
use Rattle.layout.specs.Chunks.{Chunk, live}
use Rattle.passes.specs.Places.{Placed}
use Rattle.rules.specs.Rooms.{kept_of}
use Rattle.ways.specs.Trims.{RoomFor}
use Rattle.passes.proofs.Standing.{Reads, reads}
use Rattle.ways.proofs.Following.{follows_as}
use Rattle.ways.proofs.Trimming.{room_for, stays}
use Rattle.ways.proofs.staying.resize_at.Goals as goal
use Rattle.ways.proofs.staying.resize_at.Goals.{Start, Else-room-ask, After-kept_words-keep}

-- the chunk that stands there, in numbers
stood : (c : Start) → let p = c.requires.0 in Reads c.args.a.now p.0 (live p.1 p.2) p.3 c.args.place.link c.args.place.chunk
stood c = reads _ _ _ _ _ _ c.requires.0.4

-- where the code goes on, the room has the need
enough : (c : Else-room-ask) → c.args.ask.need ≤ c.room_at-room.result.words
enough c = c.if-room-ask.false

-- so many are kept of the chunk's room
kept : (c : After-kept_words-keep) (pre : List Chunk) (s asked : ℕ) (post : List Chunk)
    → Placed c.args.a.now pre (live s asked) post c.args.place.link c.args.place.chunk
    → c.kept_words-keep.result ≡ kept_of c.args.ask.need s c.room_at-room.result.words
kept c pre s asked post st =
    c.kept_words-keep.ensures ∙ ap (λ (size : ℕ). kept_of c.args.ask.need size c.room_at-room.result.words) (reads _ _ _ _ _ _ st).size_is

-- and they fit it
fits : (c : After-kept_words-keep) → c.args.ask.need ≤ c.room_at-room.result.words
    → RoomFor (length c.args.a.now) c.args.place.link c.args.place.chunk c.kept_words-keep.result c.args.ask.asked c.room_at-room.result
fits c has =
    let p = c.requires in
    room_for p.0.4 (c.room_at-room.ensures _ _ _ _ p.0.4) _ _ p.1 has (kept c _ _ _ _ p.0.4)

pub offset_bounds-a-chunk : goal.offset_bounds-a-chunk
offset_bounds-a-chunk c = omega (arith, stood (goal.at.offset_bounds-a-chunk c).Start)

pub bounds-a-chunk : goal.bounds-a-chunk
bounds-a-chunk c = omega (arith, stood (goal.at.bounds-a-chunk c).Start)

pub trim-requires : goal.trim-requires
trim-requires c = let at = goal.at.trim-requires c in fits at.After-kept_words-keep (enough at.Else-room-ask)

pub grant-requires : goal.grant-requires
grant-requires c =
    let at = goal.at.grant-requires c in
    omega (arith, fits at.After-kept_words-keep (enough at.Else-room-ask))

pub returns : goal.returns
returns c pre s asked post st =
    let at = goal.at.returns c in
    follows_as (ap Some c.grant.ensures) c.trim.ensures
    (stays st (c.room_at-room.ensures pre s asked post st) _ _ c.requires.1 (enough at.Else-room-ask) (kept at.After-kept_words-keep pre s asked post st))
