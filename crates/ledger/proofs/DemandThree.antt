-- Demand 3, whole: of our calls under any policies that are fitting, and so of our calls.
use Rattle.rules.specs.Fits.{Policies, policy_of}
use Rattle.rules.specs.Picks.{AllFitting}
use Rattle.rules.specs.Libraries.{library_by, ours}
use Rattle.rules.proofs.Fits.{all_fitting}
use Rattle.ledger.specs.Promises.{Promises}
use Rattle.ledger.specs.Plans.{Plans}
use Rattle.ledger.specs.Demands.{DemandThree}
use Rattle.ledger.proofs.Demands as demands
use Rattle.ledger.proofs.GapsLeft as gaps
use Rattle.ledger.proofs.BatchRuns as batches
use Rattle.ledger.proofs.AskedLast as asked
use Rattle.ledger.proofs.Promises as promises
use Rattle.ledger.proofs.Plans as plans
use Rattle.ledger.proofs.Combs as combs

module _ (policies : Policies) (fitting : AllFitting policies) where
  -- item 8
  promises_by : Promises (library_by policies)
  promises_by =
      let kept = promises.promise policies fitting in
      record {
        few_free_chunks = promises.few_free_chunks policies fitting;
        free_chunks_are_holes = promises.free_chunks_are_holes policies fitting;
        promise = kept;
        promise_as_asked = promises.promise_as_asked (library_by policies) kept;
        promise_by_ledger = promises.promise_by_ledger (library_by policies) kept (demands.sums policies fitting) (demands.known policies fitting);
        least_requests = promises.least_requests policies fitting;
        best_of_its_kind = combs.best_of_its_kind policies fitting;
      }

  -- and what it makes of plans
  plans_by : Plans (library_by policies)
  plans_by =
      let by-ledger = plans.plan_by_ledger (library_by policies) promises_by.promise_by_ledger in
      let even = plans.even_grants policies fitting in
      record {
        plan_by_ledger = by-ledger;
        even_grants = even;
        plan = plans.plan (library_by policies) (demands.known policies fitting) even by-ledger;
      }

pub demand_three_by : (policies : Policies) → AllFitting policies → DemandThree (library_by policies)
demand_three_by policies fitting =
    record {
      starts = demands.starts policies fitting;
      receives = demands.receives policies fitting;
      lengths = demands.lengths policies fitting;
      apart = demands.apart policies fitting;
      inside = demands.inside policies fitting;
      keeps = demands.keeps policies fitting;
      lasts = demands.lasts policies fitting;
      sums = demands.sums policies fitting;
      room_for_alloc = demands.room_for_alloc policies fitting;
      room_for_realloc = demands.room_for_realloc policies fitting;
      room_for_resize = demands.room_for_resize policies fitting;
      room_for_relocate = demands.room_for_relocate policies fitting;
      resize_to_need = demands.resize_to_need policies fitting;
      realloc_to_need = demands.realloc_to_need policies fitting;
      crumbs_after_alloc = gaps.crumbs_after_alloc policies fitting;
      crumbs_after_resize = gaps.crumbs_after_resize policies fitting;
      realloc_stays_without_crumb = gaps.realloc_stays_without_crumb policies fitting;
      crumbs_after_free = gaps.crumbs_after_free policies fitting;
      crumbs_after_relocate = gaps.crumbs_after_relocate policies fitting;
      crumbs_after_realloc = gaps.crumbs_after_realloc policies fitting;
      alloc_need_or_gap = gaps.alloc_need_or_gap policies fitting;
      resize_need_or_room = gaps.resize_need_or_room policies fitting;
      realloc_need_or_room = gaps.realloc_need_or_room policies fitting;
      same_as_singly = batches.same_as_singly (library_by policies);
      runs_hold_batches = batches.runs_hold_batches (library_by policies);
      size_tells_asked = asked.size_tells_asked policies fitting (demands.known policies fitting);
      ledger_keeps_asked = asked.ledger_keeps_asked policies fitting;
      promises = promises_by policies fitting;
      plans = plans_by policies fitting;
      known = demands.known policies fitting;
    }

pub demand_three : DemandThree ours
demand_three = demand_three_by policy_of all_fitting
