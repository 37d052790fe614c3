-- A block that stays where it is: that its room can be trimmed to the words that it keeps, and that the stores follow
-- ways 1 and 2.
use mathlib.Core.Path.{◌≡◌, refl, sym}
use mathlib.Core.List.{List, ◌∷◌}
use Prim.Native.Nat.{ℕ, ◌+◌, ◌≤◌, ◌<◌}
use native.Mathlib.Omega.{arith}
use lib.ListN.{length}
use borrow.Author.Tests.{le-leb, lt-leb}
use Rattle.std.specs.Prelude.{None, Some}
use Rattle.layout.specs.Numbers.{header_words}
use Rattle.layout.specs.Chunks.{Chunk, live}
use Rattle.layout.proofs.Holds.{Sizes}
use Rattle.rules.specs.Rules.{trim, resized}
use Rattle.rules.specs.Rooms.{Needed, kept_of}
use Rattle.rules.proofs.Staying.{in_room, KeepsOfRoom, keeps_of_room, kept_numbers, kept_sizes}
use Rattle.passes.specs.Places.{Placed}
use Rattle.passes.proofs.Standing.{reads}
use Rattle.stores.specs.RoomAt.{HasRoom, room_written}
use Rattle.stores.specs.declared.release.Room.{Room}
use Rattle.stores.proofs.RoomReading.{bounds, become}
use Rattle.ways.specs.Ways.{Follows, way_by, grant_of}
use Rattle.ways.specs.Trims.{RoomFor}

module _ {a : List ℕ} {pre : List Chunk} {s asked : ℕ} {post : List Chunk} {link chunk : ℕ} (st : Placed a pre (live s asked) post link chunk)
    {room : Room} (has : HasRoom s post chunk room) (need w : ℕ) where
  sized : Sizes (live s asked ∷ post)
  sized = let r = reads a pre (live s asked) post link chunk st in (r.even, r.least, r.sizes_after)

  -- its room has the need, and it keeps so many words
  module _ (n : Needed need w) (enough : need ≤ room.words) {keep : ℕ} (is : keep ≡ kept_of need s room.words) where
    kept : KeepsOfRoom need s post keep
    kept = rw (is, has.words_are) (keeps_of_room need s post sized.2 (omega (arith, has.words_are)))

    pub room_for : RoomFor (length a) link chunk keep w room
    room_for =
        let b = bounds st has in
        let r = reads a pre (live s asked) post link chunk st in
        let k = kept_numbers need s keep post kept in
        record {
          link_fits = omega (arith, r.below);
          room_fits = omega (arith, b.fits);
          some_kept = omega (arith, n.least);
          enough = omega (arith, has.words_are);
          over_fits = λ l. omega (arith, has.words_are, k.over (omega (arith, has.words_are)));
          small = (r.most, omega (arith, b.next_fits, r.most), omega (arith, n.holds, n.most));
        }

    pub stays : Follows (way_by resized (chunk + header_words) need w a pre (live s asked) post) a
        (Some (grant_of (record { chunk = chunk; words = keep })))
        (room_written link chunk (trim keep w room.words) room.next a)
    stays =
        let z = kept_sizes need w s asked keep post n sized kept in
        rw (in_room (chunk + header_words) need w pre s asked a post sized.2, ← has.words_are, le-leb need room.words enough, ← is)
        (record {
          answers = refl;
          leaves = sym
              (become st has (trim keep w room.words) (rw has.words_are z.0) (rw has.words_are z.1));
        })

  -- its room lacks the need
  pub too_short : room.words < need → Follows (way_by resized (chunk + header_words) need w a pre (live s asked) post) a None a
  too_short l =
      rw (in_room (chunk + header_words) need w pre s asked a post sized.2, ← has.words_are, lt-leb need room.words l)
      (record { answers = refl; leaves = refl })
