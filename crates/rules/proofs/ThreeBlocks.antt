-- The three fits differ: a small arena on which they grant three blocks.
use mathlib.Core.Path.{◌≡◌, refl}
use mathlib.Core.List.{List, [], ◌∷◌}
use Prim.Native.Nat.{ℕ}
use lib.ListN.{replicate}
use Rattle.layout.specs.Chunks.{free, live, written, write, header}
use Rattle.layout.specs.Walk.{sound, chunks_of, walked, walk_from, walk, meet}
use Rattle.layout.specs.Reasons.{arena_gate, request_gate}
use Rattle.rules.specs.Answers.{success}
use Rattle.rules.specs.Spots.{lowest}
use Rattle.rules.specs.Fits.{best_fit_policy}
use Rattle.rules.specs.Calls.{alloc_by, alloc_on, alloc_best_on, alloc_next_on, rover_after}

-- chunks of 10, 8 and 12 free words, with a live chunk of 4 between each two: they start at words 2, 16 and 28
abbrev mixed : List ℕ
mixed = written (free 10 ∷ live 4 2 ∷ free 8 ∷ live 4 1 ∷ free 12 ∷ []) (replicate 40 0)

-- 5 words have a need of 8. The first chunk that fits has 10 words, the best 8, and the next from word 17 on 12, where
-- the rover goes
pub three_blocks :
    ((alloc_on mixed 5).answer ≡ success (4 ∷ 8 ∷ []))
    × ((alloc_best_on mixed 5).answer ≡ success (18 ∷ 6 ∷ []))
    × ((alloc_next_on mixed 17 5).answer ≡ success (30 ∷ 10 ∷ []))
    × (rover_after mixed 17 5 ≡ 28)
unfolding alloc_by rover_after best_fit_policy lowest arena_gate request_gate sound chunks_of walked walk_from walk meet written write header
three_blocks = (refl, refl, refl, refl)

-- once round: from word 29 on nothing is left, and the lowest chunk that fits is found
pub goes_round : ((alloc_next_on mixed 29 5).answer ≡ success (4 ∷ 8 ∷ [])) × (rover_after mixed 29 5 ≡ 2)
unfolding alloc_by rover_after lowest arena_gate request_gate sound chunks_of walked walk_from walk meet written write header
goes_round = (refl, refl)
