-- A block that moves, in the code's terms: the word that names the next free chunk once the gap was cut, the copy, and
-- the free.
use mathlib.Core.Path.{◌≡◌, refl, sym, ap, ◌∙◌}
use mathlib.Core.Bool.{Bool, true, false, cond}
use mathlib.Core.List.{List, [], ◌∷◌, ◌++◌}
use Prim.Native.Nat.{ℕ, ◌+◌, ◌-◌, ◌≤◌, ◌<◌, min}
use native.Mathlib.Omega.{arith}
use lib.Dec.{eqb}
use lib.ListN.{length}
use borrow.Author.Tests.{eq-eqb, ne_eqb}
use Rattle.std.specs.Prelude.{Some}
use Rattle.layout.specs.Numbers.{first_chunk, list_word, header_words, least_size}
use Rattle.layout.specs.Chunks.{Chunk, free, live, total}
use Rattle.layout.specs.Walk.{chunks_of}
use Rattle.layout.specs.Links.{link_at}
use Rattle.layout.proofs.Holds.{total_append}
use Rattle.layout.proofs.Written.{length_written}
use Rattle.rules.specs.Spots.{at}
use Rattle.rules.specs.Fits.{first_fit_policy}
use Rattle.rules.specs.Rules.{taken, cut, copied, relocated}
use Rattle.rules.specs.Rooms.{Needed}
use Rattle.rules.proofs.Remainder.{Remainder, split, whole, remainder, cut_numbers}
use Rattle.rules.proofs.OldBlock.{Order, gap_above, gap_below, order, old_before, old_after, old_stands, moved_sound, moved_chunks}
use Rattle.rules.proofs.OldBlock.{move-grants}
use Rattle.passes.specs.Places.{Placed}
use Rattle.passes.proofs.Standing.{placed_at, reads}
use Rattle.stores.specs.RoomAt.{FreedAt}
use Rattle.stores.specs.Taken.{Took}
use Rattle.stores.specs.declared.taking.Piece.{Piece}
use Rattle.ways.specs.Ways.{Follows, way_by, grant_of}
use Rattle.ways.specs.Relinks.{link_after}

-- ---- the word that names the first free chunk after some

link_at_append : (base c : ℕ) (ks ls : List Chunk) (d : ℕ) → d ≡ c + total ks → link_at base c (ks ++ ls) ≡ link_at (link_at base c ks) d ls
link_at_append base c [] ls d e = ap (λ (n : ℕ). link_at base n ls) (omega arith)
link_at_append base c (free s ∷ ks) ls d e = link_at_append (c + 1) (c + s) ks ls d (omega arith)
link_at_append base c (live s asked ∷ ks) ls d e = link_at_append base (c + s) ks ls d (omega arith)

-- it depends on the word before them only where none of them is free
data LinkBase (base other c : ℕ) (ks : List Chunk) : Type 0 where
  none_free : link_at base c ks ≡ base → link_at other c ks ≡ other → LinkBase base other c ks
  some_free : link_at base c ks ≡ link_at other c ks → c ≤ link_at base c ks → LinkBase base other c ks

link_at_least : (least base c : ℕ) (ks : List Chunk) → least ≤ base → least ≤ c → least ≤ link_at base c ks
link_at_least least base c [] h l = h
link_at_least least base c (free s ∷ ks) h l = link_at_least least (c + 1) (c + s) ks (omega arith) (omega arith)
link_at_least least base c (live s asked ∷ ks) h l = link_at_least least base (c + s) ks h (omega arith)

link_base : (base other c : ℕ) (ks : List Chunk) → LinkBase base other c ks
link_base base other c [] = none_free refl refl
link_base base other c (free s ∷ ks) = some_free refl (link_at_least c (c + 1) (c + s) ks (omega arith) (omega arith))
link_base base other c (live s asked ∷ ks) = go (link_base base other (c + s) ks)
  where
    go : LinkBase base other (c + s) ks → LinkBase base other c (live s asked ∷ ks)
    go (none_free e f) = none_free e f
    go (some_free e h) = some_free e (omega arith)

-- ---- what stands before a block once the free chunk `g`, below it, was cut

relinked : (need w g gap_link gap : ℕ) (mid : List Chunk) → need ≤ g → least_size ≤ g
    → link_after (link_at gap_link gap (free g ∷ mid)) gap_link gap (gap + (g - taken need g)) ≡ link_at gap_link gap (cut need w g ++ mid)
unfolding link_after
relinked need w g gap_link gap mid l sized = go (remainder need g l)
  where
    taken_whole : LinkBase (gap + 1) gap_link (gap + g) mid
        → link_after (link_at gap_link gap (free g ∷ mid)) gap_link gap gap ≡ link_at gap_link (gap + g) mid
    taken_whole (none_free e f) = rw (eq-eqb gap gap refl, eq-eqb (gap + 1) (link_at (gap + 1) (gap + g) mid) (sym e)) (sym f)
    taken_whole (some_free e h) = rw (eq-eqb gap gap refl, ne_eqb (gap + 1) (link_at (gap + 1) (gap + g) mid) (omega arith)) e

    go : {over : Bool} → Remainder need g over
        → link_after (link_at gap_link gap (free g ∷ mid)) gap_link gap (gap + (g - cond over need g))
        ≡ link_at gap_link gap (cond over (free (g - need) ∷ live need w ∷ []) (live g w ∷ []) ++ mid)
    go (split o) = rw (ne_eqb gap (gap + (g - need)) (omega arith)) (ap (λ (d : ℕ). link_at (gap + 1) d mid) (omega arith))
    go (whole enough few) =
        let z : gap + (g - g) ≡ gap = omega arith in
        rw z (taken_whole (link_base (gap + 1) gap_link (gap + g) mid))

kept_link : (link gap_link gap made : ℕ) → link < gap → link_after link gap_link gap made ≡ link
unfolding link_after
kept_link link gap_link gap made l = rw (ne_eqb (gap + 1) link (omega arith)) (go (eqb gap made))
  where
    go : (b : Bool) → cond b link link ≡ link
    go true = refl
    go false = refl

-- ---- the block and the gap, where each stands

module _ {a : List ℕ} {pre : List Chunk} {s asked : ℕ} {post : List Chunk} {link chunk : ℕ} (st : Placed a pre (live s asked) post link chunk)
    {before : List Chunk} {g : ℕ} {after : List Chunk} {gap_link gap : ℕ} (sg : Placed a before (free g) after gap_link gap)
    {need w : ℕ} (n : Needed need w) (fits : need ≤ g) where
  -- which of them comes first
  abbrev pub first : Order pre s asked post before g after
  first = order pre s asked post before g after (sym st.stands.same ∙ sg.stands.same)

  -- the chunks before the block, and behind it, once the need was granted
  abbrev pub front : List Chunk
  front = old_before need w pre s asked post before g after first

  abbrev pub back : List Chunk
  back = old_after need w pre s asked post before g after first

  relinks : (o : Order pre s asked post before g after)
      → link_after link gap_link gap (gap + (g - taken need g)) ≡ link_at list_word first_chunk (old_before need w pre s asked post before g after o)
  relinks (gap_above mid u v) =
      let r = reads a pre (live s asked) post link chunk st in
      let t : total before ≡ total pre + (s + total mid) = ap total u ∙ total_append pre (live s asked ∷ mid) in
      kept_link link gap_link gap _ (omega (arith, placed_at sg, r.at_is, r.below)) ∙ st.link_is
  relinks (gap_below mid u v) =
      let r = reads a before (free g) after gap_link gap sg in
      let l : link ≡ link_at gap_link gap (free g ∷ mid) =
      st.link_is ∙ ap (link_at list_word first_chunk) u ∙ link_at_append list_word first_chunk before (free g ∷ mid) gap r.at_is
      ∙ ap (λ (b : ℕ). link_at b gap (free g ∷ mid)) (sym sg.link_is) in
      ap (λ (m : ℕ). link_after m gap_link gap (gap + (g - taken need g))) l
      ∙ relinked need w g gap_link gap mid fits r.least
      ∙ ap (λ (b : ℕ). link_at b gap (cut need w g ++ mid)) sg.link_is
      ∙ sym (link_at_append list_word first_chunk before (cut need w g ++ mid) gap r.at_is)

  -- `piece` was taken, and `granted` are the words then; as many words are copied as the shorter of the two blocks has
  module _ {piece : Piece} {granted : List ℕ} (t : Took a before g after need w piece granted) {count : ℕ}
      (shorter : count ≡ min (s - header_words) (taken need g - header_words)) where
    room : count ≤ taken need g - header_words
    room = omega arith

    number : piece.chunk + header_words ≡ first_chunk + total before + (g - taken need g) + header_words
    number = ap (λ (c : ℕ). c + header_words) t.starts

    pub took_inside : (chunk + header_words + count ≤ length granted) × (piece.chunk + header_words + count ≤ length granted)
    took_inside =
        let c = cut_numbers need g fits in
        let r = reads a pre (live s asked) post link chunk st in
        let q = reads a before (free g) after gap_link gap sg in
        let e : length granted ≡ length a = ap length t.leaves ∙ length_written _ a in
        let p = t.starts in
        omega arith

    -- the old block stands where it stood
    pub took_stands : (words : List ℕ) → words ≡ copied (chunk + header_words) (piece.chunk + header_words) count granted
        → (named : ℕ) → named ≡ link_after link gap_link gap piece.chunk → Placed words front (live s asked) back named chunk
    took_stands words e named q =
        let old = old_stands need w pre s asked post before g after (chunk + header_words) st.stands.number_is fits first in
        let c : piece.chunk ≡ gap + (g - taken need g) = omega (arith, t.starts, placed_at sg) in
        rw (e, t.leaves)
        (record {
          is_sound =
              moved_sound a need w pre s asked post before g after (chunk + header_words) (piece.chunk + header_words) count st.is_sound n st.stands
              (sg.stands.same, fits) room number;
          stands = record {
            same =
                moved_chunks a need w pre s asked post before g after (chunk + header_words) (piece.chunk + header_words) count st.is_sound n st.stands
                (sg.stands.same, fits) room number
                ∙ old.same;
            number_is = old.number_is;
          };
          link_is = q ∙ ap (link_after link gap_link gap) c ∙ relinks first;
        })

    -- and is freed
    pub took_moved : first_fit_policy need (chunks_of a) ≡ at before (free g) after
        → (words : List ℕ) → words ≡ copied (chunk + header_words) (piece.chunk + header_words) count granted
        → (named : ℕ) → named ≡ link_after link gap_link gap piece.chunk
        → (freed : List ℕ) → FreedAt words named chunk freed
        → Follows (way_by relocated (chunk + header_words) need w a pre (live s asked) post) a (Some (grant_of piece)) freed
    took_moved spot words e named q freed f =
        let way =
        move-grants a need w pre s asked post before g after (chunk + header_words) (piece.chunk + header_words) count st.is_sound n st.stands
        (sg.stands.same, fits) room number in
        rw (spot, ← shorter, way, f front s asked back (took_stands words e named q), e, t.leaves) (record { answers = rw t.has; leaves = refl })
