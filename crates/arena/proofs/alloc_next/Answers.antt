-- `alloc_next` meets its contract: its request is refused and the rover stays, or what next fit picked is granted and
-- the rover goes there.
use Rattle.rules.specs.Fits.{next_fit_policy}
use Rattle.rules.proofs.Fits.{next_fitting}
use Rattle.targets.proofs.Asking.{Wanting, ask_wanted, picked_by, refused_roves, found_roves, found_small}
use Rattle.arena.proofs.alloc_next.Goals as goal
use Rattle.arena.proofs.alloc_next.Goals.{In-Ok}

-- what is asked
wanted : (c : In-Ok) → Wanting c.args.a.now c.args.n c.in-Ok.ask
wanted c = ask_wanted _ _ _ c.in-Ok.ensures

pub next_fit-place-requires : goal.next_fit-place-requires
next_fit-place-requires c = (wanted (goal.at.next_fit-place-requires c).In-Ok).is_sound

pub start_of-moved-requires : goal.start_of-moved-requires
start_of-moved-requires c = found_small _ _ _ (wanted (goal.at.start_of-moved-requires c).In-Ok) c.next_fit-place.ensures

pub grant-requires : goal.grant-requires
grant-requires c = picked_by (next_fit_policy _) (next_fitting _) (wanted (goal.at.grant-requires c).In-Ok) c.next_fit-place.ensures

pub returns-in-Ok : goal.returns-in-Ok
returns-in-Ok c =
    rw c.start_of-moved.ensures
    (found_roves _ _ _ (wanted (goal.at.returns-in-Ok c).In-Ok) c.next_fit-place.ensures c.grant.result _ c.grant.ensures)

pub returns-in-Err : goal.returns-in-Err
returns-in-Err c = refused_roves _ _ _ _ c.in-Err.ensures
