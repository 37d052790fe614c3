-- The three fits are fitting: each picks a free chunk that fits, in its place, and nowhere exactly where none fits.
use mathlib.Core.Path.{◌≡◌, refl}
use mathlib.Core.Logic.{◌↔◌}
use mathlib.Core.Bool.{Bool, true, false≢true}
use mathlib.Core.List.{List}
use Prim.Native.Nat.{ℕ}
use native.Mathlib.Omega.{arith}
use lib.Dec.{leb}
use borrow.Author.Tests.{leb-true, leb-false}
use Rattle.layout.specs.Numbers.{first_chunk}
use Rattle.layout.specs.Chunks.{Chunk, free, live}
use Rattle.layout.proofs.Bools.{both}
use Rattle.rules.specs.Spots.{Spot, nowhere, at, lowest}
use Rattle.rules.specs.Stands.{NoGapIn}
use Rattle.rules.specs.Fits.{Policy, fits, fits_from, or_else_at, first_fit_policy, next_fit_policy, first_fit}
use Rattle.rules.specs.Picks.{Picks, no_gap, a_gap, Fitting}
use Rattle.rules.specs.Fits.{best_fit, next_fit, policy_of}
use Rattle.rules.specs.Picks.{AllFitting}
use Rattle.rules.proofs.Lowest.{lowest_hit, none_passes}
use Rattle.rules.proofs.BestFit.{best_fitting}

-- ---- first fit

-- the lowest chunk that passes a test which only a chunk that fits passes
lowest_fits : (test : ℕ → Chunk → Bool) (need : ℕ) → ((c : ℕ) (k : Chunk) → test c k ≡ true → fits need c k ≡ true)
    → (ks pre : List Chunk) (k : Chunk) (post : List Chunk) → lowest test first_chunk ks ≡ at pre k post → Picks ks need (at pre k post)
lowest_fits test need only ks pre (live s asked) post e =
    absurd (false≢true (only _ (live s asked) (lowest_hit test first_chunk ks pre (live s asked) post e).2))
lowest_fits test need only ks pre (free s) post e =
    let h = lowest_hit test first_chunk ks pre (free s) post e in
    a_gap pre s post (h.0, leb-true need s (only _ (free s) h.2))

pub first_fitting : Fitting first_fit_policy
first_fitting need ks = go (first_fit_policy need ks) refl
  where
    go : (spot : Spot) → first_fit_policy need ks ≡ spot → Picks ks need spot
    go nowhere e = no_gap (λ pre s post gap. omega (arith, leb-false need s (none_passes (fits need) ks pre (free s) post e gap.0), gap.1))
    go (at pre k post) e = lowest_fits (fits need) need (λ c k t. t) ks pre k post e

-- ---- next fit

pub next_fitting : (rover : ℕ) → Fitting (next_fit_policy rover)
next_fitting rover need ks = go (lowest (fits_from rover need) first_chunk ks) refl
  where
    go : (spot : Spot) → lowest (fits_from rover need) first_chunk ks ≡ spot → Picks ks need (or_else_at spot (first_fit_policy need ks))
    go nowhere e = first_fitting need ks
    go (at pre k post) e = lowest_fits (fits_from rover need) need (λ c k t. (both (leb rover c) (fits need c k) t).1) ks pre k post e

-- ---- all three

pub all_fitting : AllFitting policy_of
all_fitting first_fit = first_fitting
all_fitting best_fit = best_fitting
all_fitting (next_fit rover) = next_fitting rover

-- a fitting policy picks nowhere exactly where none fits
pub picks_nowhere : (policy : Policy) → Fitting policy → (need : ℕ) (ks : List Chunk) → (policy need ks ≡ nowhere) ↔ NoGapIn ks need
picks_nowhere policy fitting need ks = go (fitting need ks)
  where
    go : {spot : Spot} → Picks ks need spot → (spot ≡ nowhere) ↔ NoGapIn ks need
    go (no_gap none) = (λ e. none, λ h. refl)
    go (a_gap pre s post gap) = (λ e. absurd (let z : ◌≡◌ {A = ℕ} 0 1 = cc in omega arith), λ none. absurd (none pre s post gap))
