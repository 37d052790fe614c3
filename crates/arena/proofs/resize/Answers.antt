-- `resize` meets its contract: its target refuses it, or `resize_at` follows its rule at the block.
use Rattle.answers.specs.Readings.{grant_fields}
use Rattle.targets.proofs.Granting.{handed_on}
use Rattle.targets.proofs.Locating.{target_refused, Aimed, target_aimed}
use Rattle.arena.proofs.resize.Goals as goal
use Rattle.arena.proofs.resize.Goals.{In_ok-target}

-- the block and what is asked
aimed : (c : In_ok-target) → Aimed c.args.a.now c.args.b c.args.n c.in_ok-target.target
aimed c = target_aimed _ _ _ _ c.in_ok-target.ensures

pub returns-in_err-target : goal.returns-in_err-target
returns-in_err-target c = handed_on grant_fields 2 _ _ c.from_residual.ensures.1 (target_refused _ _ _ _ c.in_err-target.ensures _ _)

pub resize_at-requires : goal.resize_at-requires
resize_at-requires c = (aimed (goal.at.resize_at-requires c).In_ok-target).asked

pub returns : goal.returns
returns c = rw c.ok_or.ensures.value ((aimed (goal.at.returns c).In_ok-target).gives _ _ _ _ c.resize_at.ensures)
