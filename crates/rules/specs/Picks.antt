-- What every policy has to pick, and what each of the three fits picks, in words of the lesson.
use Rattle.std.specs.Prelude.{ℕ, ◌+◌, ◌≤◌, ◌<◌, ◌≡◌, List}
use Rattle.layout.specs.Numbers.{first_chunk}
use Rattle.layout.specs.Chunks.{Chunk, free, total}
use Rattle.rules.specs.Spots.{Spot, nowhere, at}
use Rattle.rules.specs.Stands.{GapIn, NoGapIn}
use Rattle.rules.specs.Fits.{Policy, Fit, Policies}

-- ---- every policy

-- what it picks: nowhere, where no free chunk fits, or a free chunk that fits, in its place among the chunks
pub data Picks (ks : List Chunk) (need : ℕ) : Spot → Type 0 where
  no_gap : NoGapIn ks need → Picks ks need nowhere
  a_gap : (pre : List Chunk) (s : ℕ) (post : List Chunk) → GapIn ks need pre s post → Picks ks need (at pre (free s) post)

-- a policy that does so, whatever the need and the chunks are
abbrev pub Fitting : Policy → Type 0
Fitting policy = (need : ℕ) (ks : List Chunk) → Picks ks need (policy need ks)

-- of these policies each does
abbrev pub AllFitting : Policies → Type 0
AllFitting policies = (fit : Fit) → Fitting (policies fit)

-- ---- each of the three

-- a free chunk that fits has `s` words and starts at word `c`
abbrev pub GapFrom : List Chunk → ℕ → ℕ → ℕ → Type 0
GapFrom ks need c s = (pre : List Chunk) × (post : List Chunk) × GapIn ks need pre s post × (c ≡ first_chunk + total pre)

-- none lower fits
abbrev pub IsFirst : List Chunk → ℕ → ℕ → Type 0
IsFirst ks need c = (d t : ℕ) → GapFrom ks need d t → c ≤ d

-- none that fits is smaller, and none lower is equal
pub record IsBest (ks : List Chunk) (need c s : ℕ) : Type 0 where
  pub none_smaller : (d t : ℕ) → GapFrom ks need d t → s ≤ t
  pub none_lower : (d : ℕ) → GapFrom ks need d s → c ≤ d

-- none that fits lies from the rover up to it; where it lies below the rover, that is once round: none from the rover
-- on fits, and none lower than it
pub record IsNext (rover : ℕ) (ks : List Chunk) (need c : ℕ) : Type 0 where
  pub none_between : rover ≤ c → (d t : ℕ) → GapFrom ks need d t → rover ≤ d → c ≤ d
  pub once_round : c < rover → (d t : ℕ) → GapFrom ks need d t → (d < rover) × (c ≤ d)
