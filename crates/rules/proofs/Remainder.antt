-- What is over of some words once a need was taken from them: it is split off as a chunk, or it is too little for one
-- and all words are taken.
-- The other files of proofs carry the bound by its name; what crumbs are is in `Crumbs`.
use mathlib.Core.Path.{◌≡◌, refl}
use mathlib.Core.Bool.{Bool, true, false, cond}
use mathlib.Core.List.{List, [], ◌∷◌, ◌++◌}
use Prim.Native.Nat.{ℕ, ◌+◌, ◌-◌, ◌%◌, ◌≤◌, ◌<◌, min}
use native.Mathlib.Omega.{arith}
use borrow.Author.Tests.{leb-true, leb-false, le-leb, lt-leb}
use Rattle.layout.specs.Numbers.{header_words, least_size, least_split}
use Rattle.layout.specs.Chunks.{Chunk, free, live, total}
use Rattle.layout.proofs.Holds.{Sizes, AskedOf, Lawful, sizes_split, spaced_weaken}
use Rattle.layout.proofs.Replace.{lawful_replaced}
use Rattle.rules.specs.Rules.{splits, taken, cut}
use Rattle.rules.specs.Rooms.{Needed}

-- of `s` words that have the need the rest is split off, or all are taken, by what the rules test
pub data Remainder (need s : ℕ) : Bool → Type 0 where
  split : need + least_split ≤ s → Remainder need s true
  whole : need ≤ s → s < need + least_split → Remainder need s false

pub remainder : (need s : ℕ) → need ≤ s → Remainder need s (splits need s)
remainder need s enough = go (splits need s) refl
  where
    go : (over : Bool) → splits need s ≡ over → Remainder need s over
    go true e = split (omega (arith, leb-true least_split (s - need) e))
    go false e = whole enough (omega (arith, leb-false least_split (s - need) e))

pub splits_off : (need s : ℕ) → need + least_split ≤ s → splits need s ≡ true
splits_off need s over = le-leb least_split (s - need) (omega arith)

pub takes_all : (need s : ℕ) → s < need + least_split → splits need s ≡ false
takes_all need s few = lt-leb least_split (s - need) (omega arith)

-- ---- the parts of a cut: the words that stay free, and the new live chunk

abbrev pub uncut : ℕ → ℕ → List Chunk
uncut need s = cond (splits need s) (free (s - need) ∷ []) []

pub cut_parts : (need w s : ℕ) → cut need w s ≡ uncut need s ++ live (taken need s) w ∷ []
cut_parts need w s = go (splits need s)
  where
    go : (over : Bool) → cond over (free (s - need) ∷ live need w ∷ []) (live s w ∷ []) ≡ cond over (free (s - need) ∷ []) [] ++ live
        (cond over need s) w ∷ []
    go true = refl
    go false = refl

-- the numbers of a cut of `s` words
pub record CutNumbers (need s takes : ℕ) (stays : List Chunk) : Type 0 where
  pub uncut_total : total stays ≡ s - takes
  pub enough : need ≤ takes
  pub few : takes < need + least_split
  pub within : takes ≤ s

pub cut_numbers : (need s : ℕ) → need ≤ s → CutNumbers need s (taken need s) (uncut need s)
cut_numbers need s l = go (remainder need s l)
  where
    go : {over : Bool} → Remainder need s over → CutNumbers need s (cond over need s) (cond over (free (s - need) ∷ []) [])
    go (split o) = record { uncut_total = omega arith; enough = omega arith; few = omega arith; within = omega arith }
    go (whole enough few) = record { uncut_total = omega arith; enough = enough; few = few; within = omega arith }

pub cut_total : (need w s : ℕ) → need ≤ s → total (cut need w s) ≡ s
cut_total need w s l = go (remainder need s l)
  where
    go : {over : Bool} → Remainder need s over → total (cond over (free (s - need) ∷ live need w ∷ []) (live s w ∷ [])) ≡ s
    go (split o) = omega arith
    go (whole enough few) = omega arith

-- where the need is longer than an old chunk of `s` words, the shorter of the old block and the new one is the old one
pub shorter_old : (need s g : ℕ) → s < need → need ≤ g → min (s - header_words) (taken need g - header_words) ≡ s - header_words
shorter_old need s g l m = omega (arith, (cut_numbers need g m).enough)

-- ---- chunks with a cut stay lawful

pub cut_lawful : (n need w : ℕ) (pre : List Chunk) (s : ℕ) (post : List Chunk) → Lawful n (pre ++ free s ∷ post) → Needed need w → need ≤ s
    → Lawful n (pre ++ (cut need w s ++ post))
cut_lawful n need w pre s post l d enough = go (remainder need s enough)
  where
    z : (s % 2 ≡ 0) × (least_size ≤ s) × Sizes post
    z = (sizes_split pre (free s ∷ post) l.sizes).1

    -- what is asked for fits the need, and so it does all the words
    asked_of : (words : ℕ) → need ≤ words → AskedOf words w
    asked_of words l = record { some = d.some; held = omega (arith, d.holds) }

    go : {over : Bool} → Remainder need s over → Lawful n (pre ++ (cond over (free (s - need) ∷ live need w ∷ []) (live s w ∷ []) ++ post))
    go (split o) =
        let y = z in
        lawful_replaced n pre (free s ∷ []) (free (s - need) ∷ live need w ∷ []) post l (omega (arith, d.even), omega arith, (d.even, d.least, tt))
        (asked_of need (omega arith), tt) (omega arith)
        (λ joined h. (h.0, spaced_weaken post h.1))
    go (whole enough few) =
        lawful_replaced n pre (free s ∷ []) (live s w ∷ []) post l (z.0, z.1, tt) (asked_of s enough, tt) refl
        (λ joined h. spaced_weaken post h.1)
