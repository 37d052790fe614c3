-- A block that stays where it is: ways 1 and 2 in terms of its room, how many words of it the block keeps, and that the
-- chunks stay lawful.
use mathlib.Core.Path.{◌≡◌, refl}
use mathlib.Core.Bool.{Bool, true, false, ◌&&◌, cond}
use mathlib.Core.List.{List, [], ◌∷◌, ◌++◌}
use Prim.Native.Nat.{ℕ, ◌+◌, ◌-◌, ◌≤◌, ◌<◌}
use native.Mathlib.Omega.{arith}
use lib.Dec.{leb, ltb}
use borrow.Author.Tests.{le-leb, lt-leb, leb-true, lt-ltb, le-ltb, ltb-true}
use Rattle.layout.specs.Numbers.{least_size, least_split}
use Rattle.layout.specs.Chunks.{Chunk, free, live, total}
use Rattle.layout.proofs.Holds.{Sizes, AskedOf, Asks, Lawful, Spaced, sizes_split, spaced_weaken}
use Rattle.layout.proofs.Replace.{lawful_replaced}
use Rattle.rules.specs.Spots.{at}
use Rattle.rules.specs.Rules.{shut, or_else, taken, trim, stay, if_enough, shrink, grow}
use Rattle.rules.specs.Rooms.{Needed, room_words, room_after, kept_of}
use Rattle.rules.proofs.Remainder.{Remainder, split, whole, remainder}
use Rattle.rules.proofs.Rooms.{room_tail, room_parts, room_words_lem, room_even, room_spaced, room_next}

-- ---- ways 1 and 2 as one: the block keeps words of its room

module _ (b need w : ℕ) (pre : List Chunk) (s asked : ℕ) (a : List ℕ) where
  -- no free chunk follows
  alone : (ks : List Chunk) (fits : Bool)
      → or_else (cond fits (stay b (taken need s) w pre s ks a) shut) shut ≡ cond fits (stay b (kept_of need s s) w pre s ks a) shut
  alone ks true = rw (le-ltb s s (omega arith)) refl
  alone ks false = refl

  -- a free chunk of `t` words follows
  beside : (t : ℕ) (ks : List Chunk) → s < s + t → (fits : Bool) → leb need s ≡ fits
      → or_else (cond fits (stay b need w pre (s + t) ks a) shut) (if_enough need (s + t) (stay b (taken need (s + t)) w pre (s + t) ks a))
      ≡ if_enough need (s + t) (stay b (cond (ltb s (s + t) && fits) need (taken need (s + t))) w pre (s + t) ks a)
  beside t ks l true e = rw (lt-ltb s (s + t) l, le-leb need (s + t) (omega (arith, leb-true need s e))) refl
  beside t ks l false e = rw (lt-ltb s (s + t) l) refl

  pub in_room : (post : List Chunk) → Sizes post
      → or_else (shrink b need w (at pre (live s asked) post) a) (grow b need w (at pre (live s asked) post) a)
      ≡ if_enough need (room_words s post) (stay b (kept_of need s (room_words s post)) w pre (room_words s post) (room_after post) a)
  in_room [] z = alone [] (leb need s)
  in_room (live t other ∷ ks) z = alone (live t other ∷ ks) (leb need s)
  in_room (free t ∷ ks) z = beside t ks (omega (arith, z.1)) (leb need s) refl

-- ---- how many words it keeps

-- a block of `s` words before `post` keeps `keep` words of its room for a need: just the need, and the rest is split
-- off; just the need, and a free chunk right after it takes the rest, however few; or all, and fewer are over than are
-- split off
pub data KeepsOfRoom (need s : ℕ) (post : List Chunk) : ℕ → Type 0 where
  splits_rest : need + least_split ≤ room_words s post → KeepsOfRoom need s post need
  hands_over : need ≤ s → s + least_size ≤ room_words s post → KeepsOfRoom need s post need
  its_room : need ≤ room_words s post → room_words s post < need + least_split → KeepsOfRoom need s post (room_words s post)

pub keeps_of_room : (need s : ℕ) (post : List Chunk) → Sizes post → need ≤ room_words s post
    → KeepsOfRoom need s post (kept_of need s (room_words s post))
keeps_of_room need s post z enough = go (ltb s words) refl (leb need s) refl
  where
    words : ℕ
    words = room_words s post

    taking : {over : Bool} → Remainder need words over → KeepsOfRoom need s post (cond over need words)
    taking (split o) = splits_rest o
    taking (whole l few) = its_room enough few

    go : (beside : Bool) → ltb s words ≡ beside → (fits : Bool) → leb need s ≡ fits
        → KeepsOfRoom need s post (cond (beside && fits) need (taken need words))
    go true q true e = hands_over (leb-true need s e) (room_next s post z (ltb-true s words q))
    go true q false e = taking (remainder need words enough)
    go false q fits e = taking (remainder need words enough)

-- which numbers it can be
pub record KeptNumbers (need s keep : ℕ) (post : List Chunk) : Type 0 where
  pub enough : need ≤ keep
  pub few : keep < need + least_split
  pub within : keep ≤ room_words s post
  pub over : keep < room_words s post → keep + least_size ≤ room_words s post

pub kept_numbers : (need s keep : ℕ) (post : List Chunk) → KeepsOfRoom need s post keep → KeptNumbers need s keep post
kept_numbers need s keep post (splits_rest o) =
    record { enough = omega arith; few = omega arith; within = omega arith; over = λ h. omega arith }
kept_numbers need s keep post (hands_over own beside) =
    record { enough = omega arith; few = omega arith; within = omega arith; over = λ h. omega arith }
kept_numbers need s keep post (its_room enough few) = record { enough = enough; few = few; within = omega arith; over = λ h. absurd (omega arith) }

-- the chunks that the room becomes have lawful sizes, and as many words as it had: where just the need is kept, and the
-- rest can be a chunk
need_sizes : (need w s asked : ℕ) (post : List Chunk) → Needed need w → Sizes (live s asked ∷ post) → need + least_size ≤ room_words s post
    → Sizes (trim need w (room_words s post)) × (total (trim need w (room_words s post)) ≡ room_words s post)
need_sizes need w s asked post n z l =
    let e = room_even s asked post z in
    rw (lt-leb (room_words s post) need (omega arith)) ((n.even, n.least, (omega (arith, n.even), omega arith, tt)), omega arith)

-- and in each case
pub kept_sizes : (need w s asked keep : ℕ) (post : List Chunk) → Needed need w → Sizes (live s asked ∷ post) → KeepsOfRoom need s post keep
    → Sizes (trim keep w (room_words s post)) × (total (trim keep w (room_words s post)) ≡ room_words s post)
kept_sizes need w s asked keep post n z (splits_rest o) = need_sizes need w s asked post n z (omega arith)
kept_sizes need w s asked keep post n z (hands_over own beside) = need_sizes need w s asked post n z (omega arith)
kept_sizes need w s asked keep post n z (its_room enough few) =
    rw (le-leb (room_words s post) (room_words s post) (omega arith)) ((room_even s asked post z, omega (arith, n.least), tt), omega arith)

-- what is asked for is held by the words that are kept
trim_asks : (keep w words : ℕ) → AskedOf keep w → Asks (trim keep w words)
trim_asks keep w words held = go (leb words keep)
  where
    go : (all : Bool) → Asks (live keep w ∷ cond all [] (free (words - keep) ∷ []))
    go true = (held, tt)
    go false = (held, tt)

-- and they may stand before those behind the room
trim_spaced : (keep w words : ℕ) (post : List Chunk) → Spaced true post → Spaced false (trim keep w words ++ post)
trim_spaced keep w words post h = go (leb words keep)
  where
    go : (all : Bool) → Spaced false (live keep w ∷ cond all [] (free (words - keep) ∷ []) ++ post)
    go true = spaced_weaken post h
    go false = (refl, h)

pub kept_lawful : (n need w s asked keep : ℕ) (pre post : List Chunk) → Lawful n (pre ++ live s asked ∷ post) → Needed need w
    → KeepsOfRoom need s post keep
    → Lawful n (pre ++ (trim keep w (room_words s post) ++ room_after post))
kept_lawful n need w s asked keep pre post l d k =
    let (sizes, all) = kept_sizes need w s asked keep post d (sizes_split pre (live s asked ∷ post) l.sizes).1 k in
    lawful_replaced n pre (live s asked ∷ room_tail post) (trim keep w (room_words s post)) (room_after post) (rw (room_parts post) at l) sizes
    (trim_asks keep w (room_words s post) (record { some = d.some; held = omega (arith, d.holds, (kept_numbers need s keep post k).enough) }))
    (omega (arith, room_words_lem s post))
    (λ joined h. trim_spaced keep w (room_words s post) (room_after post) (room_spaced post (rw (← room_parts post) at h)))
