-- Plans: what item 8's promise makes of how many blocks are held, and of how many words are asked for.
use mathlib.Core.Path.{◌≡◌, refl}
use mathlib.Core.Logic.{inl, inr, ⊎_elim}
use mathlib.Core.Bool.{Bool, true, false, cond}
use mathlib.Core.List.{[], ◌∷◌}
use Prim.Native.Nat.{ℕ, ◌+◌, ◌-◌, ◌*◌, ◌≤◌, ◌<◌}
use native.Mathlib.Nat.{add-mul, mul-le-mul_left, mul-le-mul_right}
use native.Mathlib.Omega.{arith}
use lib.Dec.{eqb}
use lib.ListN.{length}
use borrow.Author.Tests.{eqb-true}
use Rattle.layout.specs.Numbers.{header_words, least_split, need}
use Rattle.rules.specs.Answers.{Answer}
use Rattle.rules.specs.Scattered.{most_too_short, scattered}
use Rattle.rules.specs.Libraries.{start, alloc, free, resize, relocate, realloc, size, view, report, write, read, Library, library_by}
use Rattle.rules.specs.Fits.{Policies}
use Rattle.rules.specs.Picks.{AllFitting}
use Rattle.rules.proofs.Searches.{block_sizes}
use Rattle.ledger.specs.Events.{Event, call, store}
use Rattle.ledger.specs.Ledger.{Entry, Ledger, Effect, renews, grants, frees, regrants, spares, effect, entry_for, noted, Done, Listed, held_words}
use Rattle.ledger.specs.Runs.{State, Run, answer_to, begun, arrived, next}
use Rattle.ledger.specs.Demands.{Known}
use Rattle.ledger.specs.Promises.{PromiseByLedger}
use Rattle.ledger.specs.Plans.{EventAsksAtMost, AsksAtMost, PlanByLedger, Plan, EvenGrants}
use Rattle.ledger.proofs.Entries.{listed_entered, listed_struck}
use Rattle.ledger.proofs.Agreeing.{chunked_block, listed_chunked}
use Rattle.ledger.proofs.WantOfRoom.{block_whole}
use Rattle.ledger.proofs.Runs.{run_agrees}

-- ---- few blocks, none of them long, by any library that keeps the promise

-- so many blocks with at most so many granted words each
held_most : (most : ℕ) (ledger : Ledger) → ((e : Entry) → Listed ledger e → e.granted ≤ most)
    → held_words ledger ≤ length ledger * (header_words + most)
held_most most [] each = omega arith
held_most most (e ∷ es) each =
    omega (arith, add-mul 1 (length es) (header_words + most), each e (inl refl), held_most most es (λ f listed. each f (inr listed)))

-- a plan makes sure that the ledger has few enough blocks and words
pub plan_by_ledger : (library : Library) → PromiseByLedger library → PlanByLedger library
plan_by_ledger library by-ledger n s run blocks most few each fit w one enough =
    let held = held_most most s.ledger each in
    let times : length s.ledger * (header_words + most) ≤ blocks * (header_words + most) = mul-le-mul_right (header_words + most) few in
    let fewer : scattered w (length s.ledger) ≤ scattered w blocks = mul-le-mul_left (most_too_short w) (omega (arith, few)) in
    by-ledger n s run fit w one (omega (arith, held, times, fewer, enough))

-- ---- our grants are even, since sizes are

pub even_grants : (policies : Policies) → AllFitting policies → EvenGrants (library_by policies)
even_grants policies fitting n s run e listed =
    let g = run_agrees policies fitting run in
    let (above, k) = listed_chunked n s.words s.ledger g e listed in
    let sizes = block_sizes s.words _ _ _ _ _ g.is_sound (chunked_block k) in
    omega (arith, sizes.0, block_whole n s.words s.ledger g above e k)

-- ---- few blocks, and no long requests, by any library that keeps the promise and whose grants are even

module _ (library : Library) (known : Known library) (most : ℕ) where
  -- a block with its header is shorter than the need of so many words and what is split off
  abbrev Small : Entry → Type 0
  Small e = header_words + e.granted < need most + least_split

  abbrev AllSmall : Ledger → Type 0
  AllSmall ledger = (e : Entry) → Listed ledger e → Small e

  -- what an event that is done enters in the ledger is so short
  abbrev EntersSmall : Effect → Answer → Type 0
  EntersSmall (renews blocks) answer = AllSmall blocks
  EntersSmall (grants w) answer = Small (entry_for w answer)
  EntersSmall (frees b) answer = Unit {0}
  EntersSmall (regrants b w) answer = Small (entry_for w answer)
  EntersSmall spares answer = Unit {0}

  noted_small : (change : Effect) (answer : Answer) → EntersSmall change answer → (ledger : Ledger) → AllSmall ledger
      → AllSmall (noted change answer ledger)
  noted_small (renews blocks) answer new ledger old e l = new e l
  noted_small (grants w) answer new ledger old e l = ⊎_elim (λ q. rw (← q) new) (old e) (listed_entered (entry_for w answer) ledger e l)
  noted_small (frees b) answer new ledger old e l = old e (listed_struck b ledger e l).1
  noted_small (regrants b w) answer new ledger old e l =
      ⊎_elim (λ q. rw (← q) new) (λ m. old e (listed_struck b ledger e m).1) (listed_entered (entry_for w answer) _ e l)
  noted_small spares answer new ledger old e l = old e l

  module _ {n : ℕ} {s : State} (run : Run library n s) where
    -- a grant has fewer words over than are split off
    enters_small : (event : Event) → EventAsksAtMost most event → Done (answer_to library event s)
        → EntersSmall (effect event) (answer_to library event s)
    enters_small (call start) few done = λ e l. absurd l
    enters_small (call (alloc fit w)) few done = omega (arith, few, (known n s run).alloc_grants fit w done)
    enters_small (call (free b)) few done = tt
    enters_small (call (resize b w)) few done = omega (arith, few, (known n s run).resize_grants b w done)
    enters_small (call (relocate b w)) few done = omega (arith, few, (known n s run).relocate_grants b w done)
    enters_small (call (realloc b w)) few done = omega (arith, few, (known n s run).realloc_grants b w done)
    enters_small (call (size b)) few done = tt
    enters_small (call (view b)) few done = tt
    enters_small (call report) few done = tt
    enters_small (call (write text)) few done = tt
    enters_small (call (read text)) few done = absurd few
    enters_small (store b i v) few done = tt

  run_small : {n : ℕ} {s : State} (run : Run library n s) → AsksAtMost library most run → AllSmall s.ledger
  run_small (begun a long l) few = λ e listed. absurd listed
  run_small (arrived text a long done) few = absurd few
  run_small (next {s} run event allowed) few = go (eqb (answer_to library event s).code 0) refl (run_small run few.0)
    where
      go : (done : Bool) → eqb (answer_to library event s).code 0 ≡ done → AllSmall s.ledger
          → AllSmall (cond done (noted (effect event) (answer_to library event s) s.ledger) s.ledger)
      go true is old =
          let done = eqb-true _ _ is in
          noted_small (effect event) (answer_to library event s) (enters_small run event (few.1 done) done) s.ledger old
      go false is old = old

pub plan : (library : Library) → Known library → EvenGrants library → PlanByLedger library → Plan library
plan library known even by-ledger n s run most blocks few held enough fit w one short =
    let granted = need most + (least_split - 2) - header_words in
    let whole : header_words + granted ≡ need most + (least_split - 2) = omega arith in
    let shorter : most_too_short w ≤ most_too_short most = omega arith in
    by-ledger n s run blocks granted held (λ e l. omega (arith, run_small library known most run few e l, even n s run e l)) fit w one
    (rw whole (omega (arith, enough, mul-le-mul_right (blocks + 1) shorter)))
