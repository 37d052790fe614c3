-- Fewer crumbs: an alloc, a resize, and a realloc that leaves the block where it is, leave no more crumbs than there
-- were; a free, a move and any realloc at most one more, the chunk that was freed, where that is one.
use mathlib.Core.Path.{◌≡◌, refl, ap, ◌∙◌}
use mathlib.Core.Bool.{Bool, true, false, ◌&&◌, cond}
use mathlib.Core.List.{List, [], ◌∷◌, ◌++◌}
use Prim.Native.Nat.{ℕ, zero, suc, ◌+◌, ◌-◌, ◌≤◌, ◌<◌}
use native.Mathlib.Nat.{zero-add}
use native.Mathlib.Omega.{arith}
use lib.Dec.{ltb}
use lib.ListN.{length}
use borrow.Author.Tests.{le-leb, lt-leb, lt-ltb, le-ltb, ltb-true, ltb-false}
use Rattle.layout.specs.Numbers.{least_split, need}
use Rattle.layout.specs.Chunks.{Chunk, free, live, written}
use Rattle.layout.specs.Walk.{sound, chunks_of}
use Rattle.layout.specs.declared.Reason.{Reason}
use Rattle.layout.proofs.Holds.{Lawful}
use Rattle.layout.proofs.Round.{sound_lawful, written_sound}
use Rattle.rules.specs.Answers.{Outcome, block_field}
use Rattle.rules.specs.Spots.{held}
use Rattle.rules.specs.Rules.{cut, trim, join, joined, released, copied}
use Rattle.rules.specs.Rooms.{room_words, room_after}
use Rattle.rules.specs.Crumbs.{crumb, crumbs, free_sizes}
use Rattle.rules.specs.Calls.{alloc_by, free_on, resize_on, relocate_on, realloc_on}
use Rattle.rules.specs.Causes.{ReallocRefused}
use Rattle.rules.specs.Fits.{Policy}
use Rattle.rules.specs.Picks.{Fitting}
use Rattle.rules.proofs.Remainder.{Remainder, split, whole, remainder}
use Rattle.rules.proofs.Rooms.{room_tail, room_split}
use Rattle.rules.proofs.Staying.{KeepsOfRoom, splits_rest, hands_over, its_room}
use Rattle.rules.proofs.Searches.{BlockAt, one_block}
use Rattle.rules.proofs.OldBlock.{StillThere, still_there}
use Rattle.rules.proofs.Gates.{request_needed}
use Rattle.rules.proofs.CallCases.{Case, refuses, does, Allots, allots, Frees, frees, alloc_by_case, free_case}
use Rattle.rules.proofs.RegrantCases.{Resizes, resizes, Relocates, moves, Regrants, in_place, elsewhere}
use Rattle.rules.proofs.RegrantCases.{resize_case, relocate_case, realloc_case}
use Rattle.rules.proofs.Keeping.{freed_lawful, allots_lawful, resizes_lawful}
use Rattle.rules.proofs.BlockNumbers.{relocated_elsewhere}

-- ---- one stretch of free words

crumb_most : (words : ℕ) → crumb words ≤ 1
crumb_most words = go _
  where
    go : (is : Bool) → cond is 1 0 ≤ 1
    go true = omega arith
    go false = omega arith

-- what is long enough to be split off is none
no_crumb : (words : ℕ) → least_split ≤ words → crumb words ≡ 0
no_crumb words long = ap (λ (few : Bool). cond (ltb 0 words && few) 1 0) (le-ltb words _ (omega (arith, long))) ∙ go (ltb 0 words)
  where
    go : (some : Bool) → ◌≡◌ {A = ℕ} (cond (some && false) 1 0) 0
    go true = refl
    go false = refl

-- and what is shorter, but not empty, is one
pub a_crumb : (words : ℕ) → 0 < words → words < least_split → crumb words ≡ 1
a_crumb words some few = rw (lt-ltb 0 words some, lt-ltb words least_split few)

-- a stretch that becomes longer is a crumb only if it was one
crumb_longer : (words more : ℕ) → 0 < words → words ≤ more → crumb more ≤ crumb words
crumb_longer words more some longer = go (ltb more least_split) refl
  where
    go : (few : Bool) → ltb more least_split ≡ few → crumb more ≤ crumb words
    go true e = omega (arith, crumb_most more, a_crumb words some (omega (arith, ltb-true more least_split e)))
    go false e = omega (arith, no_crumb more (ltb-false more least_split e))

-- two that are joined are no more crumbs than they were
crumb_joined : (s t : ℕ) → crumb (s + t) ≤ crumb s + crumb t
crumb_joined zero t = omega (arith, ap crumb (zero-add t))
crumb_joined (suc s) t = omega (arith, crumb_longer (suc s) (suc s + t) (omega arith) (omega arith))

-- ---- the crumbs of a list of chunks

abbrev crumbs_in : List Chunk → ℕ
crumbs_in ks = crumbs (free_sizes ks)

crumbs_append : (ks ls : List Chunk) → crumbs_in (ks ++ ls) ≡ crumbs_in ks + crumbs_in ls
crumbs_append [] ls = omega arith
crumbs_append (free s ∷ ks) ls = omega (arith, crumbs_append ks ls)
crumbs_append (live s asked ∷ ks) ls = crumbs_append ks ls

-- chunks in the middle are replaced by others
crumbs_replaced : (pre old new post : List Chunk) (more : ℕ) → crumbs_in new ≤ more + crumbs_in old
    → crumbs_in (pre ++ (new ++ post)) ≤ more + crumbs_in (pre ++ (old ++ post))
crumbs_replaced pre old new post more few =
    omega (
      arith,
      few,
      crumbs_append pre (new ++ post),
      crumbs_append new post,
      crumbs_append pre (old ++ post),
      crumbs_append old post,
    )

-- a need is taken from a free chunk: what stays free of it is no crumb
cut_crumbs : (need w s : ℕ) → need ≤ s → crumbs_in (cut need w s) ≤ 0 + crumbs_in (free s ∷ [])
cut_crumbs need w s enough = go (remainder need s enough)
  where
    go : {over : Bool} → Remainder need s over
        → crumbs_in (cond over (free (s - need) ∷ live need w ∷ []) (live s w ∷ [])) ≤ 0 + crumbs_in (free s ∷ [])
    go (split o) = omega (arith, no_crumb (s - need) (omega arith))
    go (whole l few) = omega arith

-- a block keeps words of its room: the rest is no crumb, or a free chunk that took words
trim_crumbs : (need w s asked keep : ℕ) (post : List Chunk) → KeepsOfRoom need s post keep
    → crumbs_in (trim keep w (room_words s post)) ≤ 0 + crumbs_in (live s asked ∷ room_tail post)
trim_crumbs need w s asked keep post (splits_rest o) =
    rw (lt-leb (room_words s post) need (omega arith)) (omega (arith, no_crumb (room_words s post - need) (omega arith)))
trim_crumbs need w s asked keep [] (hands_over own beside) = absurd (omega arith)
trim_crumbs need w s asked keep (live t other ∷ ks) (hands_over own beside) = absurd (omega arith)
trim_crumbs need w s asked keep (free t ∷ ks) (hands_over own beside) =
    rw (lt-leb (s + t) need (omega arith)) (omega (arith, crumb_longer t (s + t - need) (omega arith) (omega arith)))
trim_crumbs need w s asked keep post (its_room enough few) = rw (le-leb (room_words s post) (room_words s post) (omega arith)) (omega arith)

-- neighbours are merged
join_crumbs : (k : Chunk) (ks : List Chunk) → crumbs_in (join k ks) ≤ crumbs_in (k ∷ ks)
join_crumbs (live s asked) ks = omega arith
join_crumbs (free s) [] = omega arith
join_crumbs (free s) (live t asked ∷ ks) = omega arith
join_crumbs (free s) (free t ∷ ks) = omega (arith, crumb_joined s t)

joined_crumbs : (ks : List Chunk) → crumbs_in (joined ks) ≤ crumbs_in ks
unfolding joined
joined_crumbs [] = omega arith
joined_crumbs (free s ∷ ks) = omega (arith, join_crumbs (free s) (joined ks), joined_crumbs ks)
joined_crumbs (live s asked ∷ ks) = joined_crumbs ks

-- ---- the crumbs of an arena

abbrev pub crumbs_of : List ℕ → ℕ
crumbs_of a = crumbs_in (chunks_of a)

-- where other chunks are written
written_crumbs : (ks : List Chunk) (a : List ℕ) (more : ℕ) → Lawful (length a) ks → crumbs_in ks ≤ more + crumbs_of a
    → crumbs_of (written ks a) ≤ more + crumbs_of a
written_crumbs ks a more l few = rw (written_sound ks a l).1 few

-- a chunk is freed
freed_crumbs : (a : List ℕ) (pre : List Chunk) (s asked : ℕ) (post : List Chunk) → sound a ≡ true → chunks_of a ≡ pre ++ live s asked ∷ post
    → crumbs_of (written (joined (pre ++ free s ∷ post)) a) ≤ crumb s + crumbs_of a
freed_crumbs a pre s asked post e same =
    written_crumbs _ a (crumb s) (freed_lawful a e pre s asked post same)
    (rw same
    (omega (
      arith,
      joined_crumbs (pre ++ free s ∷ post),
      crumbs_replaced pre (live s asked ∷ []) (free s ∷ []) post (crumb s) (omega arith),
    )))

-- a refused call keeps the words, so all depends on what is done
case_crumbs : {fields : ℕ} {a : List ℕ} {Refuses : Reason → Type 0} {Does : List ℕ → List ℕ → Type 0} {outcome : Outcome} (more : ℕ)
    → ((values after : List ℕ) → Does values after → crumbs_of after ≤ more + crumbs_of a) → Case fields a Refuses Does outcome
    → crumbs_of outcome.words ≤ more + crumbs_of a
case_crumbs more f (refuses why r) = omega arith
case_crumbs more f (does {values} {after} d) = f values after d

-- ---- what the calls do

module _ (a : List ℕ) where
  allots_crumbs : (n : ℕ) (values after : List ℕ) → Allots a n values after → crumbs_of after ≤ 0 + crumbs_of a
  allots_crumbs n values after (allots e r pre s post (same, enough)) =
      written_crumbs _ a 0 (allots_lawful a e n r pre s post (same, enough))
      (rw same (crumbs_replaced pre (free s ∷ []) (cut (need n) n s) post 0 (cut_crumbs (need n) n s enough)))

  resizes_crumbs : (b n : ℕ) (values after : List ℕ) → Resizes a b n values after → crumbs_of after ≤ 0 + crumbs_of a
  resizes_crumbs b n values after (resizes e r pre s asked post is keep k) =
      written_crumbs _ a 0 (resizes_lawful a e b n r pre s asked post is keep k)
      (rw (room_split pre s asked post is.same)
      (crumbs_replaced pre (live s asked ∷ room_tail post) (trim keep n (room_words s post)) (room_after post) 0 (trim_crumbs (need n) n s asked keep post k)))

  -- a block moves: the old one is freed where the need was granted
  moved_crumbs : (b block count s asked : ℕ) (ks : List Chunk) → StillThere (copied b block count (written ks a)) b s asked ks → crumbs_in ks ≤ 0 + crumbs_of a
      → crumbs_of (written (released (held b ks)) (copied b block count (written ks a))) ≤ crumb s + crumbs_of a
  moved_crumbs b block count s asked ks (is_sound, chunks, pre, post, old, found) few =
      let freed = freed_crumbs (copied b block count (written ks a)) pre s asked post is_sound (chunks ∙ old.same) in
      rw found (omega (arith, freed, few, ap crumbs_in chunks))

  -- ---- the calls, done or refused

  -- alloc under any policy that is fitting
  pub alloc_by_crumbs : (policy : Policy) → Fitting policy → (n : ℕ) → crumbs_of (alloc_by policy a n).words ≤ crumbs_of a
  alloc_by_crumbs policy fitting n = omega (arith, case_crumbs 0 (allots_crumbs n) (alloc_by_case policy fitting a n))

  pub resize_crumbs : (b n : ℕ) → crumbs_of (resize_on a b n).words ≤ crumbs_of a
  resize_crumbs b n = omega (arith, case_crumbs 0 (resizes_crumbs b n) (resize_case a b n))

  -- a realloc that answers the number that it was given
  pub realloc_stays_crumbs : (b n : ℕ) → block_field (realloc_on a b n).answer.values ≡ b → crumbs_of (realloc_on a b n).words ≤ crumbs_of a
  realloc_stays_crumbs b n = go (realloc_case a b n)
    where
      go : {outcome : Outcome} → Case 2 a (ReallocRefused a b n) (Regrants a b n) outcome → block_field outcome.answer.values ≡ b
          → crumbs_of outcome.words ≤ crumbs_of a
      go (refuses why r) stays = omega arith
      go (does {values} {after} (in_place d)) stays = omega (arith, resizes_crumbs b n values after d)
      go (does {values} {after} (elsewhere d)) stays = absurd (relocated_elsewhere a b n values after d stays)

  -- ---- those that free the block, which is a chunk of `s` words

  module _ (b : ℕ) (pre : List Chunk) (s asked : ℕ) (post : List Chunk) (is : BlockAt a b pre s asked post) where
    frees_crumbs : (values after : List ℕ) → Frees a b values after → crumbs_of after ≤ crumb s + crumbs_of a
    frees_crumbs values after (frees e pre' s' asked' post' is') =
        rw (one_block a b pre' pre s' s asked' asked post' post e is' is).0 (freed_crumbs a pre' s' asked' post' e is'.same)

    relocates_crumbs : (n : ℕ) (values after : List ℕ) → Relocates a b n values after → crumbs_of after ≤ crumb s + crumbs_of a
    relocates_crumbs n values after (moves e r pre' s' asked' post' is' before g behind gap block at_is ks same count shorter) =
        rw (same, (one_block a b pre' pre s' s asked' asked post' post e is' is).0)
        (moved_crumbs b block count s' asked' _
        (still_there a (need n) n pre' s' asked' post' before g behind b block count e (request_needed (length a) n (sound_lawful a e) r) is' gap
        (omega arith) at_is)
        (rw gap.0 (crumbs_replaced before (free g ∷ []) (cut (need n) n g) behind 0 (cut_crumbs (need n) n g gap.1))))

    regrants_crumbs : (n : ℕ) (values after : List ℕ) → Regrants a b n values after → crumbs_of after ≤ crumb s + crumbs_of a
    regrants_crumbs n values after (in_place d) = omega (arith, resizes_crumbs b n values after d)
    regrants_crumbs n values after (elsewhere d) = relocates_crumbs n values after d

    pub free_crumbs : crumbs_of (free_on a b).words ≤ crumb s + crumbs_of a
    free_crumbs = case_crumbs (crumb s) frees_crumbs (free_case a b)

    pub relocate_crumbs : (n : ℕ) → crumbs_of (relocate_on a b n).words ≤ crumb s + crumbs_of a
    relocate_crumbs n = case_crumbs (crumb s) (relocates_crumbs n) (relocate_case a b n)

    pub realloc_crumbs : (n : ℕ) → crumbs_of (realloc_on a b n).words ≤ crumb s + crumbs_of a
    realloc_crumbs n = case_crumbs (crumb s) (regrants_crumbs n) (realloc_case a b n)
