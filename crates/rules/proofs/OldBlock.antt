-- A block that moves: where the old block stands once the need was granted elsewhere and the words were copied, and
-- what the move comes to.
use mathlib.Core.Path.{◌≡◌, refl, sym, ap, ◌∙◌}
use mathlib.Core.Logic.{◌⊎◌, inl, inr}
use mathlib.Core.Bool.{true}
use mathlib.Core.List.{List, [], ◌∷◌, ◌++◌, append_assoc, head-eq_of_cons-eq, tail-eq_of_cons-eq}
use Prim.Native.Nat.{ℕ, zero, suc, ◌+◌, ◌-◌, ◌≤◌}
use native.Mathlib.Omega.{arith}
use lib.ListN.{length}
use Rattle.layout.specs.Numbers.{first_chunk, header_words}
use Rattle.layout.specs.Chunks.{Chunk, free, live, size, total, written}
use Rattle.layout.specs.Walk.{sound, chunks_of}
use Rattle.layout.proofs.Holds.{total_append}
use Rattle.layout.proofs.Written.{Arena, written_arena}
use Rattle.layout.proofs.Round.{sound_chunks, arena_sound, arena_chunks}
use Rattle.layout.proofs.Payload.{store_inside}
use Rattle.rules.specs.Spots.{at, held}
use Rattle.rules.specs.Rules.{taken, cut, copied, released, grants, grant_from, move}
use Rattle.rules.specs.Stands.{Stands, GapAt}
use Rattle.rules.specs.Rooms.{Needed}
use Rattle.rules.proofs.Remainder.{uncut, cut_parts, cut_numbers, cut_total, cut_lawful}
use Rattle.rules.proofs.Searches.{BlockAt, held_at}

-- ---- a live chunk and a free chunk of one list: which of them comes first

pub data Order (pre : List Chunk) (s asked : ℕ) (post before : List Chunk) (g : ℕ) (after : List Chunk) : Type 0 where
  gap_above : (mid : List Chunk) → before ≡ pre ++ live s asked ∷ mid → post ≡ mid ++ free g ∷ after → Order pre s asked post before g after
  gap_below : (mid : List Chunk) → pre ≡ before ++ free g ∷ mid → after ≡ mid ++ live s asked ∷ post → Order pre s asked post before g after

pub order : (pre : List Chunk) (s asked : ℕ) (post before : List Chunk) (g : ℕ) (after : List Chunk) → pre ++ live s asked ∷ post ≡ before ++ free g ∷ after
    → Order pre s asked post before g after
order [] s asked post [] g after e = absurd (let z : ◌≡◌ {A = ℕ} 0 1 = cc in omega arith)
order [] s asked post (l ∷ before) g after e =
    gap_above before (ap (λ (k : Chunk). k ∷ before) (sym (head-eq_of_cons-eq e))) (tail-eq_of_cons-eq e)
order (k ∷ pre) s asked post [] g after e =
    gap_below pre (ap (λ (l : Chunk). l ∷ pre) (head-eq_of_cons-eq e)) (sym (tail-eq_of_cons-eq e))
order (k ∷ pre) s asked post (l ∷ before) g after e = go (order pre s asked post before g after (tail-eq_of_cons-eq e))
  where
    q : k ≡ l
    q = head-eq_of_cons-eq e

    go : Order pre s asked post before g after → Order (k ∷ pre) s asked post (l ∷ before) g after
    go (gap_above mid u v) = gap_above mid (ap (◌∷◌ l) u ∙ ap (λ (m : Chunk). m ∷ (pre ++ live s asked ∷ mid)) (sym q)) v
    go (gap_below mid u v) = gap_below mid (ap (◌∷◌ k) u ∙ ap (λ (m : Chunk). m ∷ (before ++ free g ∷ mid)) q) v

-- ---- the old block among the chunks, once the free chunk `g` between `before` and `after` was cut

module _ (need w : ℕ) (pre : List Chunk) (s asked : ℕ) (post before : List Chunk) (g : ℕ) (after : List Chunk) where
  -- the chunks before it then, and those behind it
  abbrev pub old_before : Order pre s asked post before g after → List Chunk
  old_before (gap_above mid u v) = pre
  old_before (gap_below mid u v) = before ++ (cut need w g ++ mid)

  abbrev pub old_after : Order pre s asked post before g after → List Chunk
  old_after (gap_above mid u v) = mid ++ (cut need w g ++ after)
  old_after (gap_below mid u v) = post

  -- it has the number that it had
  pub old_stands : (b : ℕ) → first_chunk + total pre + header_words ≡ b → need ≤ g → (o : Order pre s asked post before g after)
      → Stands (before ++ (cut need w g ++ after)) (old_before o) (live s asked) (old_after o) b
  old_stands b number fits (gap_above mid u v) =
      record {
        same = ap (λ (ks : List Chunk). ks ++ (cut need w g ++ after)) u ∙ append_assoc pre (live s asked ∷ mid)
            (cut need w g ++ after);
        number_is = number;
      }
  old_stands b number fits (gap_below mid u v) =
      let t : total pre ≡ total before + (g + total mid) = ap total u ∙ total_append before (free g ∷ mid) in
      let p : total (before ++ (cut need w g ++ mid)) ≡ total before + (total (cut need w g) + total mid) = simp total_append in
      record {
        same = rw v (ap (◌++◌ before) (sym (append_assoc (cut need w g) mid (live s asked ∷ post)))
            ∙ sym (append_assoc before (cut need w g ++ mid) (live s asked ∷ post)));
        number_is = omega (arith, cut_total need w g fits);
      }

  -- the block and the free chunk lie apart
  pub old_apart : Order pre s asked post before g after → (total pre + s ≤ total before) ⊎ (total before + g ≤ total pre)
  old_apart (gap_above mid u v) = inl (omega (arith, ap total u ∙ total_append pre (live s asked ∷ mid)))
  old_apart (gap_below mid u v) = inr (omega (arith, ap total u ∙ total_append before (free g ∷ mid)))

-- ---- words copied into a chunk leave the chunks as they are

copied_arena : (from to count : ℕ) (a : List ℕ) (pre : List Chunk) (k : Chunk) (post : List Chunk) (d : ℕ) → Arena a (pre ++ k ∷ post)
    → d ≡ first_chunk + total pre
    → d + header_words ≤ to → to + count ≤ d + size k → Arena (copied from to count a) (pre ++ k ∷ post)
unfolding copied
copied_arena from to zero a pre k post d r e lo hi = r
copied_arena from to (suc count) a pre k post d r e lo hi =
    store_inside (copied from to count a) pre k post d (to + count) (copied_arena from to count a pre k post d r e lo (omega arith)) e (omega arith)
    (omega arith) _

-- ---- the words

-- the need is granted
granted_arena : (a : List ℕ) (need w : ℕ) (before : List Chunk) (g : ℕ) (after : List Chunk) → sound a ≡ true → Needed need w
    → GapAt a need before g after
    → Arena (written (before ++ (cut need w g ++ after)) a) (before ++ (cut need w g ++ after))
granted_arena a need w before g after e n (same, fits) =
    written_arena _ a (cut_lawful (length a) need w before g after (rw same at (sound_chunks a e).law) n fits)

-- in the words `there` the chunks are `ks`, and block `b` is the live chunk of `s` words between `pre` and `post`
abbrev pub StillThere : List ℕ → ℕ → ℕ → ℕ → List Chunk → Type 0
StillThere there b s asked ks =
    (sound there ≡ true) × (chunks_of there ≡ ks) × (pre : List Chunk) × (post : List Chunk) × Stands ks pre (live s asked) post b
    × (held b ks ≡ at pre (live s asked) post)

module _ (a : List ℕ) (need w : ℕ) (pre : List Chunk) (s asked : ℕ) (post before : List Chunk) (g : ℕ) (after : List Chunk) (b block count : ℕ)
    (e : sound a ≡ true) (n : Needed need w) (is : BlockAt a b pre s asked post) (gap : GapAt a need before g after)
    (room : count ≤ taken need g - header_words) (at_is : block ≡ first_chunk + total before + (g - taken need g) + header_words) where
  abbrev pub which : Order pre s asked post before g after
  which = order pre s asked post before g after (sym is.same ∙ gap.0)

  cut_chunks : before ++ (cut need w g ++ after) ≡ (before ++ uncut need g) ++ live (taken need g) w ∷ after
  cut_chunks = ap (λ (ks : List Chunk). before ++ (ks ++ after)) (cut_parts need w g) ∙ simp append_assoc

  -- `count` words were copied into the new block
  moved_arena : Arena (copied b block count (written (before ++ (cut need w g ++ after)) a)) (before ++ (cut need w g ++ after))
  moved_arena =
      let c = cut_numbers need g gap.1 in
      let t : total (before ++ uncut need g) ≡ total before + total (uncut need g) = total_append before (uncut need g) in
      let least = n.least in
      rw cut_chunks
      (copied_arena b block count _ (before ++ uncut need g) (live (taken need g) w) after (first_chunk + total before + (g - taken need g))
      (rw cut_chunks at (granted_arena a need w before g after e n gap)) (omega arith) (omega arith) (omega arith))

  -- the old block stands where it stood, and is found there
  old_found : held b (before ++ (cut need w g ++ after)) ≡ at (old_before need w pre s asked post before g after which) (live s asked)
      (old_after need w pre s asked post before g after which)
  old_found = held_at _ _ _ _ _ _ (granted_arena a need w before g after e n gap).law.sizes
      (old_stands need w pre s asked post before g after b is.number_is gap.1 which)

  pub moved_sound : sound (copied b block count (written (before ++ (cut need w g ++ after)) a)) ≡ true
  moved_sound = arena_sound _ _ moved_arena

  pub moved_chunks : chunks_of (copied b block count (written (before ++ (cut need w g ++ after)) a)) ≡ before ++ (cut need w g ++ after)
  moved_chunks = arena_chunks _ _ moved_arena

  pub still_there : StillThere (copied b block count (written (before ++ (cut need w g ++ after)) a)) b s asked (before ++ (cut need w g ++ after))
  still_there = (
    moved_sound,
    moved_chunks,
    old_before need w pre s asked post before g after which,
    old_after need w pre s asked post before g after which,
    old_stands need w pre s asked post before g after b is.number_is gap.1 which,
    old_found,
  )

  -- way 3: the old block is freed
  pub move-grants :
      move b count (grant_from need w (at before (free g) after)) a
      ≡ grants block (taken need g - header_words)
      (written (released (at (old_before need w pre s asked post before g after which) (live s asked) (old_after need w pre s asked post before g after which)))
      (copied b block count (written (before ++ (cut need w g ++ after)) a)))
  move-grants = rw (at_is, old_found) refl
