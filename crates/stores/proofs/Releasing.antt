-- A live chunk is freed: the free chunk that ends where it starts, if there is one, and the stores that free it.
use mathlib.Core.Path.{◌≡◌, refl, sym, ap, ◌∙◌}
use mathlib.Core.Bool.{Bool, true, false, cond, true≢false}
use mathlib.Core.List.{List, [], ◌∷◌, ◌++◌, append_assoc}
use Prim.Native.Nat.{ℕ, ◌+◌, ◌-◌, ◌≤◌, ◌<◌}
use native.Mathlib.Omega.{arith}
use lib.Dec.{leb, eqb}
use lib.ListN.{get_or, set}
use borrow.Author.Tests.{leb-true, leb-false, le-leb, lt-leb, eq-eqb, ne_eqb}
use Rattle.std.specs.Prelude.{Option, None, Some}
use Rattle.std.proofs.lemmas.Option.{same_Some}
use Rattle.layout.specs.Numbers.{first_chunk, list_word}
use Rattle.layout.specs.Chunks.{Chunk, free, live, total, header, write, written}
use Rattle.layout.specs.Walk.{chunks_of}
use Rattle.layout.specs.Links.{link_at}
use Rattle.layout.proofs.Holds.{Sizes, Holds, Spaced, holds_split, spaced_left, total_append}
use Rattle.layout.proofs.Written.{Arena}
use Rattle.layout.proofs.Replace.{replaced_same}
use Rattle.rules.specs.Rules.{join, joined}
use Rattle.rules.specs.Rooms.{room_words, room_after}
use Rattle.passes.specs.Places.{Placed}
use Rattle.stores.specs.RoomAt.{HasRoom, free_before, room_written}
use Rattle.stores.specs.declared.release.Room.{Room}
use Rattle.passes.proofs.Standing.{placed_at, reads}
use Rattle.rules.proofs.Joining.{Closed, spaced_after, joined_spaced, joined_front, Ending, closed, in_free, ending}
use Rattle.rules.proofs.Rooms.{room_tail, room_parts, room_words_lem, room_joins}
use Rattle.stores.proofs.RoomReading.{bounds, become}

-- ---- the free chunk before

pub before_none : (a : List ℕ) (link chunk : ℕ) → link ≤ list_word → free_before a link chunk ≡ None
unfolding free_before
before_none a link chunk h = rw (le-leb link list_word h)

pub before_where : (a : List ℕ) (link chunk : ℕ) → list_word < link
    → free_before a link chunk ≡ cond (eqb (get_or a (link - 1) 0) (chunk - (link - 1))) (Some (link - 1)) None
unfolding free_before
before_where a link chunk h = rw (lt-leb link list_word h)

pub before_link : (a : List ℕ) (link chunk left : ℕ) → free_before a link chunk ≡ Some left → link ≡ left + 1
unfolding free_before
before_link a link chunk left = go (leb link list_word) (eqb (get_or a (link - 1) 0) (chunk - (link - 1))) refl
  where
    go : (low ends : Bool) → leb link list_word ≡ low → cond low None (cond ends (Some (link - 1)) None) ≡ Some left → link ≡ left + 1
    go true ends l e = absurd (let z : ◌≡◌ {A = ℕ} 0 1 = cc in omega arith)
    go false true l e = omega (arith, leb-false _ _ l, same_Some _ _ e)
    go false false l e = absurd (let z : ◌≡◌ {A = ℕ} 0 1 = cc in omega arith)

-- the least distance from the end of the last free chunk, where `before` says that it ends here
abbrev between : Bool → ℕ
between true = 0
between false = 1

-- where `pre` end in no free chunk, the last free one, in `pre` or before them, ends before `pre` do
ends_before : (a : List ℕ) (before : Bool) (base c : ℕ) (pre : List Chunk) (after : ℕ) → Sizes pre → Holds a c pre after → Closed before pre
    → (list_word < base → base - 1 + get_or a (base - 1) 0 + between before ≤ c)
    → list_word < link_at base c pre → link_at base c pre - 1 + get_or a (link_at base c pre - 1) 0 < c + total pre
ends_before a true base c [] after z h q l n = absurd (true≢false q)
ends_before a false base c [] after z h q l n = omega (arith, l n)
ends_before a before base c (free s ∷ pre) after z h q l n =
    let g : get_or a (c + 1 - 1) 0 ≡ s = ap (λ (i : ℕ). get_or a i 0) (omega arith) ∙ h.0 in
    omega (arith, ends_before a true (c + 1) (c + s) pre after z.2 h.2 q (λ b. omega arith) n)
ends_before a before base c (live s asked ∷ pre) after z h q l n =
    omega (arith, ends_before a false base (c + s) pre after z.2 h.2 q (λ b. omega (arith, l b)) n)

link_at_last : (base c : ℕ) (front : List Chunk) (u d : ℕ) → d ≡ c + total front → link_at base c (front ++ free u ∷ []) ≡ d + 1
link_at_last base c [] u d e = omega arith
link_at_last base c (free s ∷ front) u d e = link_at_last (c + 1) (c + s) front u d (omega arith)
link_at_last base c (live s asked ∷ front) u d e = link_at_last base (c + s) front u d (omega arith)

-- ---- the stores: the room of the chunk becomes free, together with a free chunk that ends where it starts

module _ {a : List ℕ} {pre : List Chunk} {s asked : ℕ} {post : List Chunk} {link chunk : ℕ} (st : Placed a pre (live s asked) post link chunk)
    {room : Room} (has : HasRoom s post chunk room) where
  -- the chunks from the freed one on
  freed_joins : joined (free s ∷ post) ≡ free room.words ∷ room_after post
  unfolding joined
  freed_joins =
      let p : Spaced false post = spaced_after false pre s asked post (reads a pre (live s asked) post link chunk st).arena.law.spaced in
      ap (join (free s)) (joined_spaced false post p) ∙ room_joins s post ∙ ap (λ (w : ℕ). free w ∷ room_after post) (sym has.words_are)

  -- no free chunk stands before it
  alone_before : Closed false pre → free_before a link chunk ≡ None
  alone_before q = go (leb link list_word) refl
    where
      go : (low : Bool) → leb link list_word ≡ low → free_before a link chunk ≡ None
      go true e = before_none a link chunk (leb-true _ _ e)
      go false e =
          let r = reads a pre (live s asked) post link chunk st in
          let l : list_word < link = leb-false _ _ e in
          let h = (holds_split a first_chunk pre (live s asked ∷ post) 0 chunk (placed_at st) r.arena.linked.1).0 in
          let b : link - 1 + get_or a (link - 1) 0 < first_chunk + total pre =
          rw st.link_is (ends_before a false list_word first_chunk pre _ r.sizes_before h q (λ n. absurd (omega arith)) (rw st.link_is at l))
          in
          before_where a link chunk l
          ∙ rw (ne_eqb (get_or a (link - 1) 0) (chunk - (link - 1)) (omega (arith, placed_at st)))

  alone_stores : Closed false pre → header chunk room.words room.next (set a link chunk) ≡ written (joined (pre ++ free s ∷ post)) a
  unfolding write room_written
  alone_stores q =
      let r = reads a pre (live s asked) post link chunk st in
      let b = bounds st has in
      let e : joined (pre ++ free s ∷ post) ≡ pre ++ free room.words ∷ room_after post =
      joined_front false pre (free s ∷ post) (spaced_left false pre (live s asked ∷ post) r.arena.law.spaced) q ∙ ap (◌++◌ pre) freed_joins in
      rw e (sym (become st has (free room.words ∷ []) (b.even, omega arith, tt) (omega arith)))

  -- a free chunk of `u` words stands before it, at word `left`
  module _ (front : List Chunk) (u left : ℕ) (is : pre ≡ front ++ free u ∷ []) (at : left ≡ first_chunk + total front) where
    -- it ends at the chunk
    left_stands : (link ≡ left + 1) × (chunk ≡ left + u) × Placed a front (free u) (live s asked ∷ post) (link_at list_word first_chunk front) left
    left_stands =
        let n : total pre ≡ total front + (u + 0) = ap total is ∙ total_append front (free u ∷ []) in
        let same : chunks_of a ≡ front ++ free u ∷ live s asked ∷ post = st.stands.same ∙ rw (is, append_assoc) in (
          st.link_is ∙ ap (link_at list_word first_chunk) is ∙ link_at_last list_word first_chunk front u left at,
          omega (arith, placed_at st),
          record { is_sound = st.is_sound; stands = record { same = same; number_is = omega arith }; link_is = refl },
        )

    left_before : free_before a link chunk ≡ Some left
    left_before =
        let (l, c, t) = left_stands in
        let r = reads a front (free u) (live s asked ∷ post) _ left t in
        let w : link - 1 ≡ left = omega arith in
        before_where a link chunk (omega arith)
        ∙ rw (eq-eqb (get_or a (link - 1) 0) (chunk - (link - 1)) (rw (w, r.size_is) (omega arith)), w)

    left_stores : Closed false front → Spaced false front
        → header left (chunk - left + room.words) room.next a ≡ written (joined (pre ++ free s ∷ post)) a
    unfolding write joined
    left_stores q p =
        let (l, c, t) = left_stands in
        let r = reads a front (free u) (live s asked ∷ post) _ left t in
        let b = bounds st has in
        let v : chunk - left ≡ u = omega arith in
        let e : joined (pre ++ free s ∷ post) ≡ front ++ free (u + room.words) ∷ room_after post =
        rw (is, append_assoc) (joined_front false front (free u ∷ free s ∷ post) p q
        ∙ ap (λ (ks : List Chunk). front ++ join (free u) ks) freed_joins) in
        let old : Arena a (front ++ (free u ∷ live s asked ∷ room_tail post ++ room_after post)) = rw (room_parts post) at r.arena in
        rw (e, v, has.next_is)
        (sym (
        replaced_same a front (free u ∷ live s asked ∷ room_tail post) (free (u + room.words) ∷ []) (room_after post) left (chunk + room_words s post) old at
        (omega (arith, room_words_lem s post)) (omega (arith, r.even, b.even), omega arith, tt)
        (omega (arith, has.words_are, room_words_lem s post)) refl))

  -- what the code stores, where `before` is the start of the free chunk that ends at it
  abbrev stored : Option ℕ → List ℕ
  stored (Some left) = header left (chunk - left + room.words) room.next a
  stored None = header chunk room.words room.next (set a link chunk)

  pub releases : (before : Option ℕ) → free_before a link chunk ≡ before → stored before ≡ written (joined (pre ++ free s ∷ post)) a
  releases before e = go (ending pre (spaced_left false pre (live s asked ∷ post) (reads a pre (live s asked) post link chunk st).arena.law.spaced))
    where
      go : Ending pre → stored before ≡ written (joined (pre ++ free s ∷ post)) a
      go (closed q) = rw (sym e ∙ alone_before q) (alone_stores q)
      go (in_free front u is q p) = rw (sym e ∙ left_before front u _ is refl) (left_stores front u _ is refl q p)
