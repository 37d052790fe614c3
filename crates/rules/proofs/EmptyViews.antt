-- A view is empty exactly where size is refused.
use mathlib.Core.Path.{◌≡◌, refl, ap}
use mathlib.Core.Logic.{◌≢◌, ◌↔◌}
use mathlib.Core.Bool.{true}
use mathlib.Core.List.{List, []}
use Prim.Native.Nat.{ℕ, ◌-◌}
use native.Mathlib.Omega.{arith}
use lib.ListN.{length, take, drop, length-take, length-drop}
use Rattle.layout.specs.Numbers.{header_words}
use Rattle.layout.specs.Chunks.{Chunk, live}
use Rattle.layout.specs.Walk.{sound}
use Rattle.layout.proofs.Reasons.{number_positive}
use Rattle.layout.proofs.Round.{sound_around}
use Rattle.rules.specs.Answers.{Outcome, granted_field}
use Rattle.rules.specs.Calls.{size_on, view_on}
use Rattle.rules.specs.Causes.{BlockRefused}
use Rattle.rules.proofs.Searches.{BlockAt, block_sizes}
use Rattle.rules.proofs.CallCases.{Case, refuses, does, Measures, measures, size_case}

-- a block has words
block_words : (a : List ℕ) (b : ℕ) (pre : List Chunk) (s asked : ℕ) (post : List Chunk) → sound a ≡ true → BlockAt a b pre s asked post
    → take (s - header_words) (drop b a) ≢ []
block_words a b pre s asked post e is none =
    let z = block_sizes a b pre s asked post e is in
    omega (arith, sound_around a pre (live s asked) post e is.same, simp (length-take, length-drop) at (ap length none), z.0, z.1, is.number_is)

-- "and the empty part where size of b would be refused"
pub view_empty : (a : List ℕ) (b : ℕ) → (view_on a b ≡ []) ↔ ((size_on a b).answer.code ≢ 0)
unfolding view_on
view_empty a b = go (size_case a b)
  where
    go : {outcome : Outcome} → Case 2 a (BlockRefused a b) (Measures a b) outcome
        → (take (granted_field outcome.answer.values) (drop b a) ≡ []) ↔ (outcome.answer.code ≢ 0)
    go (refuses why r) = (λ empty code. omega (arith, number_positive why), λ code. refl)
    go (does (measures e pre s asked post is)) = (λ empty code. block_words a b pre s asked post e is empty, λ code. absurd (code refl))
