-- What best fit picks: a free chunk that fits, than which none is smaller, and of its size none lower; or nowhere,
-- where none fits.
use mathlib.Core.Path.{◌≡◌, refl, ap}
use mathlib.Core.Bool.{Bool, true, false, cond}
use mathlib.Core.List.{List, [], ◌∷◌, ◌++◌}
use Prim.Native.Nat.{ℕ, ◌+◌, ◌≤◌, ◌<◌}
use native.Mathlib.Omega.{arith}
use lib.Dec.{leb}
use borrow.Author.Tests.{leb-true, leb-false}
use Rattle.layout.specs.Numbers.{first_chunk}
use Rattle.layout.specs.Chunks.{Chunk, free, live, size, total}
use Rattle.rules.specs.Spots.{Spot, nowhere, at, behind}
use Rattle.rules.specs.Stands.{GapIn, NoGapIn}
use Rattle.rules.specs.Fits.{tighter, best_fit_policy}
use Rattle.rules.specs.Picks.{Picks, no_gap, a_gap, Fitting, IsBest}

-- no free chunk that fits is smaller than `s` words, and none of `s` words has fewer than `c` words before it
abbrev Least : ℕ → List Chunk → ℕ → ℕ → Type 0
Least need ks c s = (pre : List Chunk) (t : ℕ) (post : List Chunk) → GapIn ks need pre t post → (s ≤ t) × (t ≡ s → c ≤ total pre)

-- that is so of a chunk and others behind it where it is so of the chunk, if it fits, and of the others
least_of : (need c s : ℕ) (k : Chunk) (ks : List Chunk) → ((t : ℕ) → k ≡ free t → need ≤ t → (s ≤ t) × (t ≡ s → c ≤ 0))
    → ((pre : List Chunk) (t : ℕ) (post : List Chunk) → GapIn ks need pre t post → (s ≤ t) × (t ≡ s → c ≤ size k + total pre))
    → Least need (k ∷ ks) c s
least_of need c s k ks here there [] t post gap = let is : k ≡ free t = cc in here t is gap.1
least_of need c s k ks here there (m ∷ pre) t post gap =
    let is : k ≡ m = cc in
    let sized : size k ≡ size m = ap size is in
    let behind-it : ks ≡ pre ++ free t ∷ post = cc in
    let rest = there pre t post (behind-it, gap.1) in
    (rest.0, λ same. omega (arith, rest.1 same))

-- what best fit picks
data Best (need : ℕ) (ks : List Chunk) : Spot → Type 0 where
  nothing : NoGapIn ks need → Best need ks nowhere
  least : (pre : List Chunk) (s : ℕ) (post : List Chunk) → GapIn ks need pre s post → Least need ks (total pre) s
      → Best need ks (at pre (free s) post)

-- a chunk that does not fit comes before the others
best_behind : (need : ℕ) (k : Chunk) (ks : List Chunk) → ((s : ℕ) → k ≡ free s → s < need) → {spot : Spot} → Best need ks spot
    → Best need (k ∷ ks) (behind k spot)
best_behind need k ks short (nothing h) = nothing go
  where
    go : NoGapIn (k ∷ ks) need
    go [] s post gap = let is : k ≡ free s = cc in omega (arith, short s is, gap.1)
    go (m ∷ pre) s post gap = h pre s post (cc, gap.1)
best_behind need k ks short (least pre s post gap b) =
    least (k ∷ pre) s post (ap (◌∷◌ k) gap.0, gap.1)
    (least_of need _ _ k ks (λ t is enough. absurd (omega (arith, short t is)))
    (λ pre' t post' other. let r = b pre' t post' other in (r.0, λ same. omega (arith, r.1 same))))

best_told : (need : ℕ) (ks : List Chunk) → Best need ks (best_fit_policy need ks)
unfolding best_fit_policy
best_told need [] = nothing go
  where
    go : NoGapIn [] need
    go [] s post gap = absurd (let z : ◌≡◌ {A = ℕ} 0 1 = cc in omega arith)
    go (m ∷ pre) s post gap = absurd (let z : ◌≡◌ {A = ℕ} 0 1 = cc in omega arith)
best_told need (live s asked ∷ ks) =
    best_behind need (live s asked) ks (λ t e. absurd (let z : ◌≡◌ {A = ℕ} 0 1 = cc in omega arith)) (best_told need ks)
best_told need (free s ∷ ks) = go (leb need s) refl (best_told need ks)
  where
    -- it is this chunk, as small as any other that fits
    here : need ≤ s → ((pre : List Chunk) (t : ℕ) (post : List Chunk) → GapIn ks need pre t post → s ≤ t)
        → Best need (free s ∷ ks) (at [] (free s) ks)
    here enough small =
        least [] s ks (refl, enough)
        (least_of need 0 s (free s) ks (λ t is more. let same : s ≡ t = cc in (omega arith, λ e. omega arith))
        (λ pre t post gap. (small pre t post gap, λ e. omega arith)))

    go : (enough : Bool) → leb need s ≡ enough → {spot : Spot} → Best need ks spot
        → Best need (free s ∷ ks) (tighter (cond enough (at [] (free s) ks) nowhere) (behind (free s) spot))
    go false e b = best_behind need (free s) ks (λ t q. let is : s ≡ t = cc in omega (arith, leb-false need s e)) b
    go true e (nothing h) = here (leb-true need s e) (λ pre t post gap. absurd (h pre t post gap))
    go true e (least pre t post gap b) = pick (leb s t) refl
      where
        pick : (lower : Bool) → leb s t ≡ lower → Best need (free s ∷ ks) (cond lower (at [] (free s) ks) (at (free s ∷ pre) (free t) post))
        pick true h = here (leb-true need s e) (λ pre' u post' other. omega (arith, leb-true s t h, (b pre' u post' other).0))
        pick false h =
            let smaller = leb-false s t h in
            least (free s ∷ pre) t post (ap (◌∷◌ (free s)) gap.0, gap.1)
            (least_of need _ _ (free s) ks (λ u is more. let same : s ≡ u = cc in (omega arith, λ q. absurd (omega arith)))
            (λ pre' u post' other. let r = b pre' u post' other in (r.0, λ q. omega (arith, r.1 q))))

-- so it is fitting
pub best_fitting : Fitting best_fit_policy
best_fitting need ks = go (best_told need ks)
  where
    go : {spot : Spot} → Best need ks spot → Picks ks need spot
    go (nothing h) = no_gap h
    go (least pre s post gap b) = a_gap pre s post gap

pub best_is : (need : ℕ) (ks pre : List Chunk) (s : ℕ) (post : List Chunk) → best_fit_policy need ks ≡ at pre (free s) post
    → IsBest ks need (first_chunk + total pre) s
best_is need ks pre s post e = go (best_told need ks) e
  where
    go : {spot : Spot} → Best need ks spot → spot ≡ at pre (free s) post → IsBest ks need (first_chunk + total pre) s
    go (nothing h) q = absurd (let z : ◌≡◌ {A = ℕ} 0 1 = cc in omega arith)
    go (least pre' t post' gap b) q =
        let before : pre' ≡ pre = cc in
        let is : t ≡ s = cc in
        let b' : Least need ks (total pre) s = rw (before, is) at b in
        record {
          none_smaller = λ d u (before, after, other, starts). (b' before u after other).0;
          none_lower = λ d (before, after, other, starts). omega (arith, starts, (b' before s after other).1 refl);
        }
