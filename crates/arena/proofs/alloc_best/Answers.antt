-- `alloc_best` meets its contract: its request is refused, or what best fit picked is granted.
use Rattle.rules.specs.Fits.{best_fit_policy}
use Rattle.rules.proofs.BestFit.{best_fitting}
use Rattle.answers.specs.Readings.{grant_fields}
use Rattle.targets.proofs.Granting.{handed_on}
use Rattle.targets.proofs.Asking.{ask_refused, Wanting, ask_wanted, picked_by, granted_by}
use Rattle.arena.proofs.alloc_best.Goals as goal
use Rattle.arena.proofs.alloc_best.Goals.{In_ok-ask}

-- what is asked
wanted : (c : In_ok-ask) → Wanting c.args.a.now c.args.n c.in_ok-ask.ask
wanted c = ask_wanted _ _ _ c.in_ok-ask.ensures

pub returns-in_err-ask : goal.returns-in_err-ask
returns-in_err-ask c = handed_on grant_fields 2 _ _ c.from_residual.ensures.1 (ask_refused _ _ _ c.in_err-ask.ensures best_fit_policy)

pub best_fit-place-requires : goal.best_fit-place-requires
best_fit-place-requires c = (wanted (goal.at.best_fit-place-requires c).In_ok-ask).is_sound

pub grant-requires : goal.grant-requires
grant-requires c = picked_by best_fit_policy best_fitting (wanted (goal.at.grant-requires c).In_ok-ask) c.best_fit-place.ensures

pub returns : goal.returns
returns c = granted_by best_fit_policy best_fitting (wanted (goal.at.returns c).In_ok-ask) c.best_fit-place.ensures _ _ c.grant.ensures
