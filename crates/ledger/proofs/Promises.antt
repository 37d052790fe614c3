-- Item 8 over every run of our calls, under any policies that are fitting; and what follows from it and from demand 3,
-- whatever the library is.
use mathlib.Core.Path.{◌≡◌, refl}
use mathlib.Core.Bool.{true}
use Prim.Native.Nat.{ℕ, ◌+◌, ◌*◌, ◌≤◌, ◌<◌}
use native.Mathlib.Nat.{mul-lt-mul_of_pos_right}
use native.Mathlib.Omega.{arith}
use Rattle.layout.specs.Numbers.{need}
use Rattle.layout.specs.Walk.{sound}
use Rattle.rules.specs.Answers.{free_words_in, live_blocks_in}
use Rattle.rules.specs.Causes.{LawfulRequest}
use Rattle.rules.specs.Scattered.{scattered}
use Rattle.rules.specs.Fits.{Fit, Policies}
use Rattle.rules.specs.Picks.{AllFitting}
use Rattle.rules.specs.Libraries.{alloc, relocate, realloc, Library, library_by}
use Rattle.rules.proofs.ReportCounts.{report_answers}
use Rattle.rules.proofs.Scattered as scattering
use Rattle.ledger.specs.Ledger.{Entry, Done, Listed}
use Rattle.ledger.specs.Gaps.{gaps, EachShorter}
use Rattle.ledger.specs.Runs.{State, reported, Run}
use Rattle.ledger.specs.Demands.{Sums, Known}
use Rattle.ledger.specs.Promises.{FewFreeChunks, FreeChunksAreHoles, Promise, PromiseAsAsked, PromiseByLedger, LeastRequests}
use Rattle.ledger.proofs.Entries.{listed_split}
use Rattle.ledger.proofs.WantOfRoom.{no_gap}
use Rattle.ledger.proofs.Runs.{run_agrees}
use Rattle.ledger.proofs.Demands.{room_for_relocate, room_for_realloc}
use Rattle.ledger.proofs.GapsLeft.{run_holes}

-- ---- of our calls

module _ (policies : Policies) (fitting : AllFitting policies) where
  -- in a run the arena is sound
  run_sound : {n : ℕ} {s : State} → Run (library_by policies) n s → sound s.words ≡ true
  run_sound run = (run_agrees policies fitting run).is_sound

  pub few_free_chunks : FewFreeChunks (library_by policies)
  few_free_chunks n s run = scattering.few_free_chunks s.words (run_sound run)

  pub free_chunks_are_holes : FreeChunksAreHoles (library_by policies)
  free_chunks_are_holes n s run = rw (report_answers s.words (run_sound run), run_holes policies fitting run) refl

  -- a request that more words are free for than can lie scattered is lawful, and some gap is long enough for it
  module _ (n : ℕ) (s : State) (run : Run (library_by policies) n s) (w : ℕ) (one : 1 ≤ w)
      (more : scattered w (live_blocks_in (reported (library_by policies) s)) < free_words_in (reported (library_by policies) s)) where
    sure_request : LawfulRequest n w
    sure_request =
        let r = scattering.sure_lawful s.words (run_sound run) w more one in
        (r.0, omega (arith, r.1, (run_agrees policies fitting run).long))

    sure_gap : EachShorter (need w) (gaps n s.ledger) → ⊥
    sure_gap short =
        scattering.sure_gap s.words (run_sound run) w more ((no_gap n s.words s.ledger (run_agrees policies fitting run) w).1 short)

    -- so a call that needs a gap has one
    alloc_done : (fit : Fit) → Done (library_by policies (alloc fit w) s.words).answer
    alloc_done fit = scattering.sure_done s.words (run_sound run) w more (policies fit) (fitting fit) one

    module _ (e : Entry) (listed : Listed s.ledger e) where
      relocate_done : Done (library_by policies (relocate e.block w) s.words).answer
      relocate_done = (room_for_relocate policies fitting n s run e listed w sure_request).done.1 sure_gap

      realloc_done : Done (library_by policies (realloc e.block w) s.words).answer
      realloc_done =
          let (below, above, q) = listed_split s.ledger e listed in
          (room_for_realloc policies fitting n s run below above e q w sure_request).done.1 (λ short. sure_gap short.0)

  pub promise : Promise (library_by policies) scattered
  promise =
      record {
        alloc_sure = λ n s run fit w one more. alloc_done n s run w one more fit;
        relocate_sure = λ n s run e listed w one more. relocate_done n s run w one more e listed;
        realloc_sure = λ n s run e listed w one more. realloc_done n s run w one more e listed;
      }

  pub least_requests : LeastRequests (library_by policies)
  least_requests n s run fit w one small some = scattering.least_done s.words (run_sound run) (policies fit) (fitting fit) w one small some

-- ---- of every library that keeps its promise

-- the need is more than what is too short
as_asked : (w blocks : ℕ) → scattered w blocks < need w * (blocks + 1)
as_asked w blocks = mul-lt-mul_of_pos_right (omega arith) (omega arith)

module _ (library : Library) (kept : Promise library scattered) where
  pub promise_as_asked : PromiseAsAsked library
  promise_as_asked n s run fit w lawful enough = kept.alloc_sure n s run fit w lawful.0
      (omega (arith, enough, as_asked w (live_blocks_in (reported library s))))

  -- the report has the ledger's numbers
  pub promise_by_ledger : Sums library → Known library → PromiseByLedger library
  promise_by_ledger sums known n s run fit w one more =
      kept.alloc_sure n s run fit w one (rw (known n s run).live_blocks_lem (omega (arith, more, sums n s run)))
