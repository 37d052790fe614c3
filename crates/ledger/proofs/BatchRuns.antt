-- A batch is the run of its requests.
use Prim.Native.Nat.{ℕ}
use mathlib.Core.Path.{◌≡◌, refl, sym, ap, subst, ◌∙◌}
use mathlib.Core.List.{List, [], ◌∷◌}
use Rattle.rules.specs.Answers.{Answer}
use Rattle.rules.specs.Libraries.{Library}
use Rattle.rules.specs.Batches.{Wanted, a_call, unknown, made_singly, served, wanted_in, filled, Batch}
use Rattle.rules.specs.declared.Request.{Request}
use Rattle.rules.proofs.Batches.{batch_none, batch_more}
use Rattle.ledger.specs.Events.{call}
use Rattle.ledger.specs.Ledger.{Ledger, Effect, renews, grants, frees, regrants, spares, effect, noted, if_done}
use Rattle.ledger.specs.Runs.{State, Run, next}
use Rattle.ledger.specs.BatchRuns.{record_answer, ledger_for, ledger_from, after_one, after_singly}
use Rattle.ledger.specs.Demands.{SameAsSingly, RunsHoldBatches}

-- a record tells of its answer all that a ledger is kept from
record_notes : (e : Effect) (r : Request) (answer : Answer) (ledger : Ledger)
    → noted e (record_answer (filled r (served answer))) ledger ≡ noted e answer ledger
record_notes (renews blocks) r answer ledger = refl
record_notes (grants w) r answer ledger = refl
record_notes (frees b) r answer ledger = refl
record_notes (regrants b w) r answer ledger = refl
record_notes spares r answer ledger = refl

module _ (library : Library) where
  -- the state after one record is filled is that after its request is made singly
  one_filled : (r : Request) (w : Wanted) (s : State)
      → let outcome = made_singly library w s.words in
      record { words = outcome.words; ledger = ledger_for w (record_answer (filled r (served outcome.answer))) s.ledger } ≡ after_one library w s
  one_filled r (a_call c) s =
      let outcome = library c s.words in
      ap (λ (ledger : Ledger). record { words = outcome.words; ledger = if_done outcome.answer ledger s.ledger })
      (record_notes (effect (call c)) r outcome.answer s.ledger)
  one_filled r unknown s = refl

  -- the state that a batch on the words of `s` leaves
  abbrev leaving : State → Batch → State
  leaving s batch = record { words = batch.words; ledger = ledger_from batch.records s.ledger }

  pub same_as_singly : SameAsSingly library
  same_as_singly [] s = ap (leaving s) (batch_none library s.words)
  same_as_singly (r ∷ rs) s =
      let outcome = made_singly library (wanted_in r) s.words in
      ap (leaving s) (batch_more library s.words r rs)
      ∙ same_as_singly rs (record { words = outcome.words; ledger = ledger_for (wanted_in r) (record_answer (filled r (served outcome.answer))) s.ledger })
      ∙ ap (after_singly library rs) (one_filled r (wanted_in r) s)

  -- requests that are made singly are events of the run
  one_runs : {n : ℕ} {s : State} → Run library n s → (w : Wanted) → Run library n (after_one library w s)
  one_runs run (a_call c) = next run (call c) tt
  one_runs run unknown = run

  singly_runs : {n : ℕ} {s : State} → Run library n s → (records : List Request) → Run library n (after_singly library records s)
  singly_runs run [] = run
  singly_runs {s = s} run (r ∷ rs) = singly_runs {s = after_one library (wanted_in r) s} (one_runs run (wanted_in r)) rs

  pub runs_hold_batches : RunsHoldBatches library
  runs_hold_batches n s run records = subst (Run library n) (sym (same_as_singly records s)) (singly_runs run records)
