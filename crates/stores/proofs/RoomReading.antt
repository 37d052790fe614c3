-- The room of a live chunk, which is its own words and those of a free chunk right after it: how it is read, and the
-- stores that make other chunks of it.
use mathlib.Core.Path.{◌≡◌, refl, ap, ◌∙◌}
use mathlib.Core.Logic.{◌≢◌}
use mathlib.Core.List.{List, [], ◌∷◌, ◌++◌}
use Prim.Native.Nat.{ℕ, ◌+◌, ◌%◌, ◌≤◌, ◌<◌}
use native.Mathlib.Omega.{arith}
use lib.ListN.{length, get_or}
use Rattle.layout.specs.Numbers.{least_size, greatest_length}
use Rattle.layout.specs.Chunks.{Chunk, free, live, total, first_free, written}
use Rattle.layout.specs.Links.{free_list, Chain}
use Rattle.layout.proofs.Holds.{Sizes, total_append, first_free_within}
use Rattle.layout.proofs.Chain.{chain_next}
use Rattle.layout.proofs.Written.{Arena}
use Rattle.layout.proofs.Replace.{replaced}
use Rattle.rules.specs.Rooms.{room_words, room_after}
use Rattle.rules.proofs.Rooms.{room_tail, room_parts, room_words_lem, room_even}
use Rattle.passes.specs.Places.{Placed, LiveAt}
use Rattle.passes.proofs.Standing.{Reads, reads}
use Rattle.stores.specs.RoomAt.{HasRoom, room_written}
use Rattle.stores.specs.declared.release.Room.{Room}

-- ---- the words of a live chunk: its size, and the next free chunk, which may stand right after it

-- no chunk from word `c` on starts before it
first_free_past : (c : ℕ) (ks : List Chunk) (d : ℕ) → 0 < d → d < c → first_free c ks 0 ≢ d
first_free_past c [] d n h = omega arith
first_free_past c (free s ∷ ks) d n h = omega arith
first_free_past c (live s asked ∷ ks) d n h = first_free_past (c + s) ks d n (omega arith)

-- the free chunk at `next`, right after it, is in the arena and belongs to the room
abbrev pub NextJoins : List ℕ → ℕ → List Chunk → ℕ → ℕ → ℕ → Type 0
NextJoins a s post chunk size next =
    (least_size ≤ get_or a next 0) × (next + get_or a next 0 ≤ length a)
    × HasRoom s post chunk (record { words = size + get_or a next 0; next = get_or a (next + 1) 0 })

module _ (a : List ℕ) (pre : List Chunk) (s asked : ℕ) (link chunk : ℕ) where
  next_joins : (post : List Chunk) → Reads a pre (live s asked) post link chunk
      → first_free (chunk + s) post 0 ≡ chunk + s → NextJoins a s post chunk s (chunk + s)
  next_joins [] r e = absurd (omega arith)
  next_joins (free t ∷ ks) r e =
      let h : Chain a link (free_list (chunk + s) (free t ∷ ks)) = r.leads in
      let z : (t % 2 ≡ 0) × (least_size ≤ t) × Sizes ks = r.sizes_after in
      rw (h.1, chain_next a link (chunk + s) t ks h)
      (z.1, omega arith, record { words_are = refl; next_is = ap (λ (c : ℕ). first_free c ks 0) (omega arith) })
  next_joins (live t other ∷ ks) r e =
      let z : (t % 2 ≡ 0) × (least_size ≤ t) × Sizes ks = r.sizes_after in
      absurd (first_free_past (chunk + s + t) ks (chunk + s) (omega arith) (omega arith) e)

  next_apart : (post : List Chunk) → first_free (chunk + s) post 0 ≢ chunk + s
      → HasRoom s post chunk (record { words = s; next = first_free (chunk + s) post 0 })
  next_apart [] n = record { words_are = refl; next_is = refl }
  next_apart (free t ∷ ks) n = absurd (n refl)
  next_apart (live t other ∷ ks) n = record { words_are = refl; next_is = refl }

-- what the code reads
pub record Around (a : List ℕ) (link chunk : ℕ) : Type 0 where
  pub below : link < chunk
  pub least : least_size ≤ get_or a chunk 0
  pub inside : chunk + get_or a chunk 0 ≤ length a
  pub most : length a ≤ greatest_length
  pub next_inside : get_or a link 0 ≤ length a
  pub next_room : get_or a link 0 ≡ chunk + get_or a chunk 0
      → (least_size ≤ get_or a (get_or a link 0) 0) × (get_or a link 0 + get_or a (get_or a link 0) 0 ≤ length a)

module _ {a : List ℕ} {pre : List Chunk} {s asked : ℕ} {post : List Chunk} {link chunk : ℕ} (st : Placed a pre (live s asked) post link chunk) where
  pub room_beside : get_or a link 0 ≡ chunk + get_or a chunk 0 → NextJoins a s post chunk (get_or a chunk 0) (get_or a link 0)
  room_beside b =
      let r = reads a pre (live s asked) post link chunk st in
      rw (b, r.size_is) (next_joins a pre s asked link chunk post r (omega (arith, r.names)))

  pub room_alone : get_or a link 0 ≢ chunk + get_or a chunk 0
      → HasRoom s post chunk (record { words = get_or a chunk 0; next = get_or a link 0 })
  room_alone n =
      let r = reads a pre (live s asked) post link chunk st in
      rw (r.size_is, r.names) (next_apart a pre s asked link chunk post (λ e. n (omega (arith, r.names))))

pub around : (a : List ℕ) (link chunk : ℕ) → LiveAt a link chunk → Around a link chunk
around a link chunk (pre, s, asked, post, st) =
    let r = reads a pre (live s asked) post link chunk st in
    let n = first_free_within (chunk + s) post in
    record {
      below = r.below;
      least = omega arith;
      inside = omega arith;
      most = r.most;
      next_inside = omega (arith, r.names);
      next_room = λ b. let x = room_beside st b in (x.0, x.1);
    }

-- ---- the stores

-- what is known of the room of a chunk, in numbers
pub record Bounds (a : List ℕ) (s : ℕ) (post : List Chunk) (chunk : ℕ) (room : Room) : Type 0 where
  pub even : room.words % 2 ≡ 0
  pub least : s ≤ room.words
  pub fits : chunk + room.words + total (room_after post) ≡ length a
  pub next_fits : room.next ≤ length a

module _ {a : List ℕ} {pre : List Chunk} {s asked : ℕ} {post : List Chunk} {link chunk : ℕ} (st : Placed a pre (live s asked) post link chunk)
    {room : Room} (has : HasRoom s post chunk room) where
  pub bounds : Bounds a s post chunk room
  bounds =
      let r = reads a pre (live s asked) post link chunk st in
      let w : room.words ≡ s + total (room_tail post) = has.words_are ∙ room_words_lem s post in
      let p : total post ≡ total (room_tail post) + total (room_after post) =
      ap total (room_parts post) ∙ total_append (room_tail post) (room_after post) in
      let e = room_even s asked post (r.even, r.least, r.sizes_after) in
      let f = first_free_within (chunk + room_words s post) (room_after post) in
      record {
        even = omega (arith, has.words_are);
        least = omega arith;
        fits = omega arith;
        next_fits = omega
            (arith, has.next_is, has.words_are);
      }

  -- the chunk and its room become `new`: one link is stored anew, and the headers of `new`
  pub become : (new : List Chunk) → Sizes new → total new ≡ room.words
      → written (pre ++ (new ++ room_after post)) a ≡ room_written link chunk new room.next a
  unfolding room_written
  become new z t =
      let r = reads a pre (live s asked) post link chunk st in
      let w : room.words ≡ s + total (room_tail post) = has.words_are ∙ room_words_lem s post in
      let q : Arena a (pre ++ (live s asked ∷ room_tail post ++ room_after post)) = rw (room_parts post) at r.arena in
      rw (has.next_is, st.link_is)
      (replaced a pre (live s asked ∷ room_tail post) new (room_after post) chunk (chunk + room_words s post) q r.at_is
      (omega (arith, room_words_lem s post)) z (omega arith))
