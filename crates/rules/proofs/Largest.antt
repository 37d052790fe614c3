-- The second number that report answers is the largest request that alloc would grant now, under whichever fit.
use mathlib.Core.Path.{◌≡◌, refl, ap}
use mathlib.Core.Logic.{◌≢◌}
use mathlib.Core.Bool.{true}
use mathlib.Core.List.{List, [], ◌∷◌, ◌++◌}
use Prim.Native.Nat.{ℕ, ◌-◌, ◌%◌, ◌≤◌, ◌<◌}
use native.Mathlib.Omega.{arith}
use Rattle.layout.specs.Numbers.{header_words, need}
use Rattle.layout.specs.Chunks.{Chunk, free, live}
use Rattle.layout.specs.Walk.{sound, chunks_of}
use Rattle.layout.proofs.Holds.{Sizes}
use Rattle.layout.proofs.Round.{sound_chunks}
use Rattle.layout.proofs.Reasons.{number_positive}
use Rattle.rules.specs.Answers.{largest_request_in, Outcome}
use Rattle.rules.specs.Rules.{widest}
use Rattle.rules.specs.Fits.{Policy}
use Rattle.rules.specs.Picks.{Fitting}
use Rattle.rules.specs.Calls.{alloc_by, report_on}
use Rattle.rules.proofs.ReportCounts.{report_answers, counts_within}
use Rattle.rules.proofs.Searches.{FreeShorter, no_gap_shorter, free_shorter_tail}
use Rattle.rules.specs.Causes.{AllocRefused}
use Rattle.rules.proofs.CallCases.{Case, refuses, does, Allots, allots, alloc_by_case}
use Rattle.rules.proofs.Calls.{alloc_by_done}

-- ---- the size of the largest free chunk

widest_even : (ks : List Chunk) → Sizes ks → widest ks % 2 ≡ 0
widest_even [] z = refl
widest_even (free s ∷ ks) z = omega (arith, z.0, widest_even ks z.2)
widest_even (live s asked ∷ ks) z = widest_even ks z.2

pub widest_least : (pre : List Chunk) (s : ℕ) (post : List Chunk) → s ≤ widest (pre ++ free s ∷ post)
widest_least [] s post = omega arith
widest_least (free t ∷ pre) s post = omega (arith, widest_least pre s post)
widest_least (live t asked ∷ pre) s post = widest_least pre s post

-- where every free chunk has fewer words, so has the largest
widest_below : (ks : List Chunk) (words : ℕ) → 1 ≤ words → FreeShorter words ks → widest ks < words
widest_below [] words one f = one
widest_below (free s ∷ ks) words one f =
    omega (arith, f [] s ks refl, widest_below ks words one (free_shorter_tail words (free s) ks f))
widest_below (live s asked ∷ ks) words one f = widest_below ks words one (free_shorter_tail words (live s asked) ks f)

-- ---- the report

-- the largest request that report answers
abbrev pub largest : List ℕ → ℕ
largest a = largest_request_in (report_on a).answer

module _ (a : List ℕ) (e : sound a ≡ true) where
  pub largest_is : largest a ≡ widest (chunks_of a) - header_words
  largest_is = rw (report_answers a e)

  module _ (policy : Policy) (fitting : Fitting policy) where
    pub largest_granted : (n : ℕ) → 1 ≤ n → n ≤ largest a → (alloc_by policy a n).answer.code ≡ 0
    largest_granted n one small =
        let r = (sound_chunks a e).law in
        alloc_by_done a policy fitting n e
        (one, omega (arith, largest_is, (counts_within (chunks_of a) r.sizes).widest_fits, r.fills))
        (λ none. omega (
          arith,
          largest_is,
          widest_even (chunks_of a) r.sizes,
          widest_below (chunks_of a) (need n) (omega arith)
              ((no_gap_shorter a (need n)).0 none),
        ))

    pub above_largest : (n : ℕ) → largest a < n → (alloc_by policy a n).answer.code ≢ 0
    above_largest n large code = go (alloc_by_case policy fitting a n) code
      where
        go : {outcome : Outcome} → Case 2 a (AllocRefused a n) (Allots a n) outcome → outcome.answer.code ≢ 0
        go (refuses why r) c = omega (arith, number_positive why)
        go (does (allots s r pre t post (same, enough))) c =
            let w : widest (chunks_of a) ≡ widest (pre ++ free t ∷ post) = ap widest same in
            omega (arith, largest_is, widest_least pre t post, enough)
