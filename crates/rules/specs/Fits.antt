-- Fits: which free chunk a need is taken from.
use Rattle.std.specs.Prelude.{ℕ, Bool, false, ◌&&◌, cond, List, [], ◌∷◌, leb}
use Rattle.layout.specs.Numbers.{first_chunk}
use Rattle.layout.specs.Chunks.{Chunk, free, live, size}
use Rattle.rules.specs.Spots.{Spot, nowhere, at, behind, lowest}

-- a policy picks a spot for a need among the chunks
abbrev pub Policy : Type 0
Policy = ℕ → List Chunk → Spot

-- ---- the three fits

-- a chunk fits a need: it is free, and its size is at least the need
abbrev pub fits : ℕ → ℕ → Chunk → Bool
fits need c (free s) = leb need s
fits need c (live s asked) = false

-- it fits, and starts at word `rover` or above
abbrev pub fits_from : ℕ → ℕ → ℕ → Chunk → Bool
fits_from rover need c k = leb rover c && fits need c k

-- the first of two spots or, where that is nowhere, the second
abbrev pub or_else_at : Spot → Spot → Spot
or_else_at nowhere other = other
or_else_at (at pre k post) other = at pre k post

-- the spot of two that has the smaller chunk; the first, where they are as large
abbrev pub tighter : Spot → Spot → Spot
tighter nowhere other = other
tighter (at pre k post) nowhere = at pre k post
tighter (at pre k post) (at pre' l post') = cond (leb (size k) (size l)) (at pre k post) (at pre' l post')

-- first fit: the lowest free chunk that fits
abbrev pub first_fit_policy : Policy
first_fit_policy need ks = lowest (fits need) first_chunk ks

-- best fit: the smallest free chunk that fits, the lowest of equals
unfoldable pub best_fit_policy : Policy
best_fit_policy need [] = nowhere
best_fit_policy need (live s asked ∷ ks) = behind (live s asked) (best_fit_policy need ks)
best_fit_policy need (free s ∷ ks) = tighter (cond (leb need s) (at [] (free s) ks) nowhere) (behind (free s) (best_fit_policy need ks))

-- next fit: from the rover on, the lowest free chunk that fits; once round, the lowest of all
abbrev pub next_fit_policy : ℕ → Policy
next_fit_policy rover need ks = or_else_at (lowest (fits_from rover need) first_chunk ks) (first_fit_policy need ks)

-- ---- the three as data

pub data Fit : Type 0 where
  first_fit : Fit
  best_fit : Fit
  next_fit : (rover : ℕ) → Fit

-- a policy for each
abbrev pub Policies : Type 0
Policies = Fit → Policy

abbrev pub policy_of : Policies
policy_of first_fit = first_fit_policy
policy_of best_fit = best_fit_policy
policy_of (next_fit rover) = next_fit_policy rover
