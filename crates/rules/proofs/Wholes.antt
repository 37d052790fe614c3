-- Where more than the need is granted, all that is there is granted: a free chunk as a whole, or the whole room of a
-- block that stays.
use mathlib.Core.Path.{◌≡◌, refl}
use mathlib.Core.Logic.{◌⊎◌, inl, inr}
use mathlib.Core.Bool.{Bool, cond}
use mathlib.Core.List.{List, [], ◌∷◌, ◌++◌}
use Prim.Native.Nat.{ℕ, ◌+◌, ◌-◌, ◌≤◌}
use native.Mathlib.Omega.{arith}
use Rattle.layout.specs.Numbers.{header_words, need}
use Rattle.layout.specs.Chunks.{Chunk, free, live}
use Rattle.layout.specs.Walk.{chunks_of}
use Rattle.layout.proofs.Round.{written_sound}
use Rattle.rules.specs.Answers.{block_field, granted_field}
use Rattle.rules.specs.Rules.{free_chunks}
use Rattle.rules.specs.Fits.{Policy}
use Rattle.rules.specs.Picks.{Fitting}
use Rattle.rules.specs.Calls.{alloc_by, resize_on, realloc_on}
use Rattle.rules.specs.Rooms.{room_words}
use Rattle.rules.proofs.Remainder.{Remainder, split, whole, remainder}
use Rattle.rules.proofs.Searches.{BlockAt, one_block}
use Rattle.rules.proofs.Staying.{KeepsOfRoom, splits_rest, hands_over, its_room}
use Rattle.rules.proofs.CallCases.{done_does, Allots, allots, alloc_by_case}
use Rattle.rules.proofs.RegrantCases.{Resizes, resizes, Regrants, in_place, elsewhere, resize_case, realloc_case}
use Rattle.rules.proofs.Keeping.{allots_lawful}
use Rattle.rules.proofs.BlockNumbers.{relocated_elsewhere}

-- a free chunk becomes live as a whole
one_less : (pre : List Chunk) (s asked : ℕ) (post : List Chunk) → 1 + free_chunks (pre ++ live s asked ∷ post) ≡ free_chunks (pre ++ free s ∷ post)
one_less [] s asked post = refl
one_less (free t ∷ pre) s asked post = omega (arith, one_less pre s asked post)
one_less (live t other ∷ pre) s asked post = one_less pre s asked post

-- a need is taken from a free chunk: just the need, or there is one free chunk less
cut_whole : (need w : ℕ) (pre : List Chunk) (s : ℕ) (post : List Chunk) → header_words ≤ need → {over : Bool} → Remainder need s over
    → (header_words + (cond over need s - header_words) ≡ need)
    ⊎ (1 + free_chunks (pre ++ (cond over (free (s - need) ∷ live need w ∷ []) (live s w ∷ []) ++ post)) ≡ free_chunks (pre ++ free s ∷ post))
cut_whole need w pre s post least (split o) = inl (omega arith)
cut_whole need w pre s post least (whole l few) = inr (one_less pre s w post)

-- a block that stays keeps just its need, or its whole room
keeps_whole : (need s keep : ℕ) (post : List Chunk) → header_words ≤ need → KeepsOfRoom need s post keep
    → (header_words + (keep - header_words) ≡ need) ⊎ (header_words + (keep - header_words) ≡ room_words s post)
keeps_whole need s keep post least (splits_rest o) = inl (omega arith)
keeps_whole need s keep post least (hands_over own beside) = inl (omega arith)
keeps_whole need s keep post least (its_room enough few) = inr (omega arith)

module _ (a : List ℕ) where
  allots_whole : (n : ℕ) (values after : List ℕ) → Allots a n values after
      → (header_words + granted_field values ≡ need n) ⊎ (1 + free_chunks (chunks_of after) ≡ free_chunks (chunks_of a))
  allots_whole n values after (allots e r pre s post gap) =
      rw ((written_sound _ a (allots_lawful a e n r pre s post gap)).1, gap.0)
      (cut_whole (need n) n pre s post (omega arith) (remainder (need n) s gap.1))

  -- alloc under any policy that is fitting
  pub alloc_by_whole : (policy : Policy) → Fitting policy → (n : ℕ)
      → let outcome = alloc_by policy a n in
      outcome.answer.code ≡ 0
      → (header_words + granted_field outcome.answer.values ≡ need n) ⊎ (1 + free_chunks (chunks_of outcome.words) ≡ free_chunks (chunks_of a))
  alloc_by_whole policy fitting n done = allots_whole n _ _ (done_does (alloc_by_case policy fitting a n) done)

  module _ (b : ℕ) (pre : List Chunk) (s asked : ℕ) (post : List Chunk) (is : BlockAt a b pre s asked post) (n : ℕ) where
    resizes_whole : (values after : List ℕ) → Resizes a b n values after
        → (header_words + granted_field values ≡ need n) ⊎ (header_words + granted_field values ≡ room_words s post)
    resizes_whole values after (resizes e r pre' s' asked' post' is' keep k) =
        let same = one_block a b pre' pre s' s asked' asked post' post e is' is in
        rw (same.0, same.1) (keeps_whole (need n) s' keep post' (omega arith) k)

    regrants_whole : (values after : List ℕ) → Regrants a b n values after → block_field values ≡ b
        → (header_words + granted_field values ≡ need n) ⊎ (header_words + granted_field values ≡ room_words s post)
    regrants_whole values after (in_place d) stays = resizes_whole values after d
    regrants_whole values after (elsewhere d) stays = absurd (relocated_elsewhere a b n values after d stays)

    pub resize_whole : (resize_on a b n).answer.code ≡ 0
        → (header_words + granted_field (resize_on a b n).answer.values ≡ need n)
        ⊎ (header_words + granted_field (resize_on a b n).answer.values ≡ room_words s post)
    resize_whole done = resizes_whole _ _ (done_does (resize_case a b n) done)

    -- a realloc that answers the number that it was given
    pub realloc_whole : (realloc_on a b n).answer.code ≡ 0 → block_field (realloc_on a b n).answer.values ≡ b
        → (header_words + granted_field (realloc_on a b n).answer.values ≡ need n)
        ⊎ (header_words + granted_field (realloc_on a b n).answer.values ≡ room_words s post)
    realloc_whole done = regrants_whole _ _ (done_does (realloc_case a b n) done)
