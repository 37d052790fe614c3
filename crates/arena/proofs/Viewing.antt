-- The part of an arena that is a block: its words, where they lie, and that the arena has them.
use mathlib.Core.Path.{◌≡◌, sym, ap}
use mathlib.Core.List.{List, []}
use Prim.Native.Nat.{ℕ, ◌+◌, ◌-◌, ◌≤◌}
use native.Mathlib.Nat.{zero-add}
use native.Mathlib.Omega.{arith}
use borrow.Author.Tests.{ne_eqb}
use lib.ListN.{length, get_or, take, drop}
use Rattle.std.specs.Prelude.{Ok, Err}
use Rattle.layout.specs.Numbers.{header_words}
use Rattle.layout.specs.Chunks.{live}
use Rattle.layout.specs.Reasons.{number}
use Rattle.layout.specs.declared.Reason.{Reason}
use Rattle.layout.proofs.Reasons.{number_positive}
use Rattle.layout.proofs.Round.{sound_around}
use Rattle.rules.specs.Answers.{Answer, Outcome}
use Rattle.rules.specs.Calls.{size_on, view_on}
use Rattle.rules.specs.Causes.{BlockRefused}
use Rattle.rules.proofs.Searches.{block_sizes}
use Rattle.rules.proofs.CallCases.{Case, refuses, does, Measures, measures, size_case}
use Rattle.answers.specs.Readings.{sized_numbers}
use Rattle.answers.specs.declared.Sizes.{Sizes}
use Rattle.answers.proofs.Determined.{agree}
use Rattle.arena.specs.Views.{view_from, word_at, Views}

module _ (a : List ℕ) (b : ℕ) where
  -- `size` refuses block `b` of the arena `a`
  pub view_none : (place : ℕ × ℕ) (why : Reason) → sized_numbers (Err why) ≡ (size_on a b).answer → Views a place b [] place
  unfolding view_on view_from
  view_none place why answers =
      record {
        holds = rw (← answers);
        stands = rw (← answers, ne_eqb (number why) 0 (omega (arith, number_positive why)))
            (ap (λ (byte : ℕ). (place.0, byte)) (sym (zero-add place.1)));
      }

  -- `size` tells the block's sizes: the code's part of the arena
  module _ (sizes : Sizes) (answers : sized_numbers (Ok sizes) ≡ (size_on a b).answer) where
    pub view_words : (place : ℕ × ℕ) → Views a place b (take (b + sizes.granted - b) (drop b a)) (word_at place b)
    unfolding view_on view_from
    view_words place =
        let n : b + sizes.granted - b ≡ sizes.granted = omega arith in
        record { holds = rw (← answers, n); stands = rw (← answers) }

    pub view_within : b + sizes.granted ≤ length a
    view_within = go (size_case a b) answers
      where
        go : {outcome : Outcome} → Case 2 a (BlockRefused a b) (Measures a b) outcome → sized_numbers (Ok sizes) ≡ outcome.answer
            → b + sizes.granted ≤ length a
        go (refuses why r) p = absurd (omega (arith, ap (λ (r : Answer). r.code) p, number_positive why))
        go (does (measures is_sound pre s n post is)) p =
            let size_is : sizes.granted ≡ s - header_words = ap (λ (r : Answer). get_or r.values 1 0) p in
            omega (arith, sound_around a pre (live s n) post is_sound is.same, is.number_is, (block_sizes a b pre s n post is_sound is).1)

-- a view answers a part of the arena: two that its promise allows hold the same words, and lie at the same place
pub view_determined : (a : List ℕ) (place : ℕ × ℕ) (b : ℕ) (part part' : List ℕ) (lies lies' : ℕ × ℕ)
    → Views a place b part lies → Views a place b part' lies' → (part ≡ part') × (lies ≡ lies')
view_determined a place b part part' lies lies' v v' = (agree v.holds v'.holds, agree v.stands v'.stands)
