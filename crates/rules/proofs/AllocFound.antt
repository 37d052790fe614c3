-- From which chunk an alloc that is done grants its block.
use mathlib.Core.Path.{◌≡◌, refl}
use mathlib.Core.List.{List, [], ◌∷◌}
use Prim.Native.Nat.{ℕ, ◌+◌, ◌-◌}
use native.Mathlib.Omega.{arith}
use lib.ListN.{length}
use Rattle.layout.specs.Numbers.{first_chunk, header_words, need}
use Rattle.layout.specs.Chunks.{Chunk, free, total}
use Rattle.layout.specs.Walk.{chunks_of}
use Rattle.layout.specs.Reasons.{arena_gate, request_gate}
use Rattle.layout.specs.Reasons.{Gate}
use Rattle.std.specs.Prelude.{Ok, Err}
use Rattle.layout.specs.declared.Reason.TheVariants.{NoRoom}
use Rattle.layout.proofs.Reasons.{number_positive}
use Rattle.rules.specs.Answers.{settle, pass}
use Rattle.rules.specs.Spots.{Spot, at, start_of}
use Rattle.rules.specs.Fits.{Policy, first_fit_policy, best_fit_policy, next_fit_policy}
use Rattle.rules.specs.Rules.{taken, grant_from, allotted}
use Rattle.rules.specs.Calls.{granted, alloc_by, alloc_on, alloc_best_on, alloc_next_on}
use Rattle.rules.specs.Picks.{Picks, no_gap, a_gap, Fitting, GapFrom, IsFirst, IsBest, IsNext}
use Rattle.rules.proofs.BestFit.{best_fitting, best_is}
use Rattle.rules.proofs.Fits.{first_fitting, next_fitting}
use Rattle.rules.proofs.Lesson.{first_is, next_is}

-- an alloc answered the last words, or all, of a free chunk that fitted, which started at word `c` and is as `Is` says
pub record GrantedFrom (Is : ℕ → ℕ → Type 0) (a : List ℕ) (n : ℕ) (values : List ℕ) (c : ℕ) : Type 0 where
  pub s : ℕ
  pub gap : GapFrom (chunks_of a) (need n) c s
  pub is : Is c s
  pub answers : values ≡ (c + (s - taken (need n) s) + header_words) ∷ (taken (need n) s - header_words) ∷ []

-- under any fitting policy it is the chunk that was picked, and all that is known of such chunks is so of it
pub alloc_by_found : (policy : Policy) → Fitting policy → (Is : List Chunk → ℕ → ℕ → ℕ → Type 0)
    → ((need : ℕ) (ks pre : List Chunk) (s : ℕ) (post : List Chunk) → policy need ks ≡ at pre (free s) post → Is ks need (first_chunk + total pre) s)
    → (a : List ℕ) (n : ℕ)
    → let outcome = alloc_by policy a n in
    outcome.answer.code ≡ 0
    → GrantedFrom (Is (chunks_of a) (need n)) a n outcome.answer.values (start_of (policy (need n) (chunks_of a)))
unfolding alloc_by
alloc_by_found policy fitting Is is a n = go (arena_gate a) (request_gate (length a) n) (fitting (need n) (chunks_of a)) refl
  where
    go : (arena request : Gate) {spot : Spot} → Picks (chunks_of a) (need n) spot → policy (need n) (chunks_of a) ≡ spot
        → let outcome = settle 2 a (pass arena (pass request (granted NoRoom (allotted (grant_from (need n) n spot) a)))) in
        outcome.answer.code ≡ 0 → GrantedFrom (Is (chunks_of a) (need n)) a n outcome.answer.values (start_of spot)
    go (Err why) request p e done = absurd (omega (arith, number_positive why))
    go (Ok _) (Err why) p e done = absurd (omega (arith, number_positive why))
    go (Ok _) (Ok _) (no_gap none) e done = absurd (omega (arith, number_positive NoRoom))
    go (Ok _) (Ok _) (a_gap pre s post gap) e done =
        record { s = s; gap = (pre, post, gap, refl); is = is (need n) (chunks_of a) pre s post e; answers = refl }

module _ (a : List ℕ) (n : ℕ) where
  pub alloc_found : (alloc_on a n).answer.code ≡ 0
      → GrantedFrom (λ c s. IsFirst (chunks_of a) (need n) c) a n (alloc_on a n).answer.values (start_of (first_fit_policy (need n) (chunks_of a)))
  alloc_found = alloc_by_found first_fit_policy first_fitting (λ ks need c s. IsFirst ks need c) first_is a n

  pub alloc_best_found : (alloc_best_on a n).answer.code ≡ 0
      → GrantedFrom (λ c s. IsBest (chunks_of a) (need n) c s) a n (alloc_best_on a n).answer.values (start_of (best_fit_policy (need n) (chunks_of a)))
  alloc_best_found = alloc_by_found best_fit_policy best_fitting IsBest best_is a n

  pub alloc_next_found : (rover : ℕ)
      → let outcome = alloc_next_on a rover n in
      outcome.answer.code ≡ 0
      → GrantedFrom (λ c s. IsNext rover (chunks_of a) (need n) c) a n outcome.answer.values (start_of (next_fit_policy rover (need n) (chunks_of a)))
  alloc_next_found rover =
      alloc_by_found (next_fit_policy rover) (next_fitting rover) (λ ks need c s. IsNext rover ks need c)
      (λ need ks pre s post. next_is need ks pre s post rover) a n
