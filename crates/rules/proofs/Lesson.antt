-- What each of the three fits picks, in words of the lesson, and that those words leave no choice.
use mathlib.Core.Path.{◌≡◌, refl, sym, ap, ◌∙◌}
use mathlib.Core.Logic.{◌↔◌}
use mathlib.Core.Bool.{Bool, true, false, true≢false}
use mathlib.Core.List.{List, [], ◌∷◌, ◌++◌}
use Prim.Native.Nat.{ℕ, ◌+◌, ◌≤◌, ◌<◌}
use native.Mathlib.Omega.{arith}
use lib.Dec.{leb}
use borrow.Author.Tests.{le-leb, leb-true, leb-false}
use Rattle.layout.specs.Numbers.{first_chunk}
use Rattle.layout.specs.Chunks.{Chunk, free, size, total}
use Rattle.layout.specs.Walk.{sound, chunks_of}
use Rattle.layout.proofs.Bools.{both}
use Rattle.layout.proofs.Holds.{Sizes}
use Rattle.layout.proofs.Round.{sound_chunks}
use Rattle.rules.specs.Spots.{Spot, nowhere, at, behind, lowest}
use Rattle.rules.specs.Stands.{GapIn}
use Rattle.rules.specs.Fits.{Policy, fits, fits_from, or_else_at, first_fit_policy, best_fit_policy, next_fit_policy}
use Rattle.rules.specs.Picks.{Picks, no_gap, a_gap, Fitting, GapFrom}
use Rattle.rules.specs.Picks.{IsFirst, IsBest, IsNext}
use Rattle.rules.proofs.Lowest.{lowest_hit, lowest_least, none_passes}
use Rattle.rules.proofs.BestFit.{best_fitting, best_is}
use Rattle.rules.proofs.Fits.{first_fitting, next_fitting}

-- ---- what they pick

-- the lowest of the chunks that pass a test lies no higher than a chunk that fits and passes it
lies_lowest : (test : ℕ → Chunk → Bool) (need : ℕ) (ks pre : List Chunk) (k : Chunk) (post : List Chunk) → lowest test first_chunk ks ≡ at pre k post
    → (d t : ℕ) → GapFrom ks need d t → test d (free t) ≡ true → first_chunk + total pre ≤ d
lies_lowest test need ks pre k post e d t (pre', post', gap, starts) passes =
    omega (arith, starts, lowest_least test ks pre k post pre' (free t) post' e gap.0 (rw (← starts) passes))

module _ (need : ℕ) (ks pre : List Chunk) (s : ℕ) (post : List Chunk) where
  pub first_is : first_fit_policy need ks ≡ at pre (free s) post → IsFirst ks need (first_chunk + total pre)
  first_is e d t gap = lies_lowest (fits need) need ks pre (free s) post e d t gap (le-leb need t gap.2.1)

  -- a chunk that fits from the rover on
  from_rover : (rover d t : ℕ) → GapFrom ks need d t → rover ≤ d → fits_from rover need d (free t) ≡ true
  from_rover rover d t gap above = rw (le-leb rover d above, le-leb need t gap.2.1)

  pub next_is : (rover : ℕ) → next_fit_policy rover need ks ≡ at pre (free s) post → IsNext rover ks need (first_chunk + total pre)
  next_is rover = go (lowest (fits_from rover need) first_chunk ks) refl
    where
      go : (spot : Spot) → lowest (fits_from rover need) first_chunk ks ≡ spot → or_else_at spot (first_fit_policy need ks) ≡ at pre (free s) post
          → IsNext rover ks need (first_chunk + total pre)
      go (at pre' k post') q e =
          let here : lowest (fits_from rover need) first_chunk ks ≡ at pre (free s) post = q ∙ e in
          let passed = both (leb rover (first_chunk + total pre)) (leb need s)
          (lowest_hit (fits_from rover need) first_chunk ks pre (free s) post here).2 in
          let above = leb-true rover (first_chunk + total pre) passed.0 in
          record {
            none_between = λ over d t gap after. lies_lowest (fits_from rover need) need ks pre (free s) post here d t gap
                (from_rover rover d t gap after);
            once_round = λ under d t gap. absurd (omega (arith, above));
          }
      go nowhere q e =
          record {
            none_between = λ over d t gap after. absurd (omega (arith, none d t gap));
            once_round = λ under d t gap. (none d t gap, first_is e d t gap);
          }
        where
          none : (d t : ℕ) → GapFrom ks need d t → d < rover
          none d t (pre', post', gap, starts) = compare (leb rover d) refl
            where
              compare : (after : Bool) → leb rover d ≡ after → d < rover
              compare false h = leb-false rover d h
              compare true h =
                  absurd (true≢false
                  (sym (from_rover rover d t (pre', post', gap, starts) (leb-true rover d h))
                  ∙ (rw (← starts) at (none_passes (fits_from rover need) ks pre' (free t) post' q gap.0))))

-- ---- these words leave no choice

-- one chunk starts at a word
one_start : (pre : List Chunk) (k : Chunk) (post pre' : List Chunk) (l : Chunk) (post' : List Chunk) → Sizes (pre ++ k ∷ post)
    → pre ++ k ∷ post ≡ pre' ++ l ∷ post' → total pre ≡ total pre' → at pre k post ≡ at pre' l post'
one_start [] k post [] l post' z same starts = let is : k ≡ l = cc in let after : post ≡ post' = cc in rw (is, after)
one_start [] k post (m ∷ pre') l post' z same starts =
    let is : k ≡ m = cc in
    let sized : size k ≡ size m = ap size is in
    absurd (omega (arith, z.1))
one_start (m ∷ pre) k post [] l post' z same starts = absurd (omega (arith, z.1))
one_start (m ∷ pre) k post (m' ∷ pre') l post' z same starts =
    let is : m ≡ m' = cc in
    let sized : size m ≡ size m' = ap size is in
    let rest : pre ++ k ∷ post ≡ pre' ++ l ∷ post' = cc in
    let further : total pre ≡ total pre' = omega arith in
    rw is (ap (behind m') (one_start pre k post pre' l post' z.2 rest further))

-- in a sound arena: what a fitting policy picks, if that has a property which leaves no choice of where it starts, is
-- exactly the free chunk that fits and has the property
module _ (policy : Policy) (fitting : Fitting policy) (Is : List Chunk → ℕ → ℕ → ℕ → Type 0)
    (is : (need : ℕ) (ks pre : List Chunk) (s : ℕ) (post : List Chunk) → policy need ks ≡ at pre (free s) post
    → Is ks need (first_chunk + total pre) s)
    (one : (ks : List Chunk) (need c s d t : ℕ) → GapFrom ks need c s → Is ks need c s → GapFrom ks need d t → Is ks need d t → c ≡ d)
  where
    exactly : (a : List ℕ) → sound a ≡ true → (need : ℕ) (pre : List Chunk) (s : ℕ) (post : List Chunk)
        → (policy need (chunks_of a) ≡ at pre (free s) post) ↔ (GapIn (chunks_of a) need pre s post × Is (chunks_of a) need (first_chunk + total pre) s)
    exactly a e need pre s post = (λ q. (gap_of q, is need (chunks_of a) pre s post q), λ (gap, has). go (fitting need (chunks_of a)) refl gap has)
      where
        gap_of : policy need (chunks_of a) ≡ at pre (free s) post → GapIn (chunks_of a) need pre s post
        gap_of q = told (fitting need (chunks_of a)) q
          where
            told : {spot : Spot} → Picks (chunks_of a) need spot → spot ≡ at pre (free s) post → GapIn (chunks_of a) need pre s post
            told (no_gap none) p = absurd (let z : ◌≡◌ {A = ℕ} 0 1 = cc in omega arith)
            told (a_gap pre' t post' gap) p =
                let before : pre' ≡ pre = cc in let sized : t ≡ s = cc in let after : post' ≡ post = cc in
                rw (before, sized, after) at gap

        go : {spot : Spot} → Picks (chunks_of a) need spot → policy need (chunks_of a) ≡ spot → GapIn (chunks_of a) need pre s post
            → Is (chunks_of a) need (first_chunk + total pre) s → spot ≡ at pre (free s) post
        go (no_gap none) q gap has = absurd (none pre s post gap)
        go (a_gap pre' t post' gap') q gap has =
            let same = one (chunks_of a) need _ t _ s (pre', post', gap', refl) (is need (chunks_of a) pre' t post' q) (pre, post, gap, refl) has in
            one_start pre' (free t) post' pre (free s) post (rw gap'.0 at (sound_chunks a e).law.sizes) (sym gap'.0 ∙ gap.0) (omega arith)

module _ (a : List ℕ) (e : sound a ≡ true) (need : ℕ) (pre : List Chunk) (s : ℕ) (post : List Chunk) where
  pub first_exactly : (first_fit_policy need (chunks_of a) ≡ at pre (free s) post)
      ↔ (GapIn (chunks_of a) need pre s post × IsFirst (chunks_of a) need (first_chunk + total pre))
  first_exactly =
      exactly first_fit_policy first_fitting (λ ks need c s. IsFirst ks need c) first_is
      (λ ks need c s d t gap lowest gap' lowest'. omega (arith, lowest d t gap', lowest' c s gap)) a e need pre s post

  pub best_exactly : (best_fit_policy need (chunks_of a) ≡ at pre (free s) post)
      ↔ (GapIn (chunks_of a) need pre s post × IsBest (chunks_of a) need (first_chunk + total pre) s)
  best_exactly =
      exactly best_fit_policy best_fitting IsBest best_is one a e need pre s post
    where
      one : (ks : List Chunk) (need c s d t : ℕ) → GapFrom ks need c s → IsBest ks need c s → GapFrom ks need d t → IsBest ks need d t → c ≡ d
      one ks need c s d t gap best gap' best' =
          let same : s ≡ t = omega (arith, best.none_smaller d t gap', best'.none_smaller c s gap) in
          omega (arith, best.none_lower d (rw same gap'), best'.none_lower c (rw (← same) gap))

  pub next_exactly : (rover : ℕ) → (next_fit_policy rover need (chunks_of a) ≡ at pre (free s) post)
      ↔ (GapIn (chunks_of a) need pre s post × IsNext rover (chunks_of a) need (first_chunk + total pre))
  next_exactly rover =
      exactly (next_fit_policy rover) (next_fitting rover) (λ ks need c s. IsNext rover ks need c)
      (λ need ks pre s post. next_is need ks pre s post rover) one
      a e need pre s post
    where
      one : (ks : List Chunk) (need c s d t : ℕ) → GapFrom ks need c s → IsNext rover ks need c → GapFrom ks need d t → IsNext rover ks need d → c ≡ d
      one ks need c s d t gap next gap' next' = go (leb rover c) refl (leb rover d) refl
        where
          go : (over : Bool) → leb rover c ≡ over → (over' : Bool) → leb rover d ≡ over' → c ≡ d
          go true h true h' =
              let above = leb-true rover c h in let above' = leb-true rover d h' in
              omega (arith, next.none_between above d t gap' above', next'.none_between above' c s gap above)
          go true h false h' = absurd (omega (arith, leb-true rover c h, (next'.once_round (leb-false rover d h') c s gap).0))
          go false h true h' = absurd (omega (arith, leb-true rover d h', (next.once_round (leb-false rover c h) d t gap').0))
          go false h false h' =
              omega (arith, (next.once_round (leb-false rover c h) d t gap').1, (next'.once_round (leb-false rover d h') c s gap).1)
