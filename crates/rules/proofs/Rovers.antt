-- The rover of next fit: where it is after a call.
use mathlib.Core.Path.{◌≡◌, sym, ◌∙◌}
use mathlib.Core.Logic.{◌≢◌}
use mathlib.Core.List.{List}
use Prim.Native.Nat.{ℕ}
use borrow.Author.Tests.{eq-eqb, ne_eqb}
use Rattle.layout.specs.Numbers.{need}
use Rattle.layout.specs.Walk.{chunks_of}
use Rattle.rules.specs.Answers.{Answer}
use Rattle.rules.specs.Calls.{alloc_next_on, rover_after, Roves}
use Rattle.rules.specs.Picks.{IsNext}
use Rattle.rules.proofs.AllocFound.{GrantedFrom, alloc_next_found}

-- a refused call leaves it
pub rover_stays : (a : List ℕ) (rover n : ℕ) → (alloc_next_on a rover n).answer.code ≢ 0 → rover_after a rover n ≡ rover
unfolding rover_after
rover_stays a rover n refused = rw (ne_eqb _ 0 refused)

-- a call that is done moves it to the chunk from which it grants: the next one that fits from the rover on
pub rover_moves : (a : List ℕ) (rover n : ℕ) → (alloc_next_on a rover n).answer.code ≡ 0
    → GrantedFrom (λ c s. IsNext rover (chunks_of a) (need n) c) a n (alloc_next_on a rover n).answer.values (rover_after a rover n)
unfolding rover_after
rover_moves a rover n done = rw (eq-eqb (alloc_next_on a rover n).answer.code 0 done) (alloc_next_found a n rover done)

-- the promise of next fit leaves no choice
pub roves_once : {a : List ℕ} {rover n : ℕ} {answer answer' : Answer} {words words' : List ℕ} {moved moved' : ℕ}
    → Roves a rover n answer words moved → Roves a rover n answer' words' moved'
    → (answer ≡ answer') × (words ≡ words') × (moved ≡ moved')
roves_once g g' =
    (g.gives.answers ∙ sym g'.gives.answers, g.gives.leaves ∙ sym g'.gives.leaves, g.moves ∙ sym g'.moves)
