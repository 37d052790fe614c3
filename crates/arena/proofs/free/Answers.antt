-- `free` meets its contract: its block is not located, or `release` freed it.
use Rattle.std.proofs.Common.{◌≡◌, refl}
use Rattle.std.specs.Prelude.{Ok}
use Rattle.layout.specs.Reasons.{arena_gate}
use Rattle.rules.specs.Calls.{free_on}
use Rattle.passes.proofs.Finding.{FoundBlock}
use Rattle.answers.specs.Readings.{no_fields}
use Rattle.targets.proofs.Granting.{handed_on}
use Rattle.targets.proofs.Locating.{not_located, block_located}
use Rattle.arena.proofs.free.Goals as goal
use Rattle.arena.proofs.free.Goals.{In_ok-place}

-- the block was found
here : (c : In_ok-place) → (arena_gate c.args.a.now ≡ Ok tt) × FoundBlock c.args.a.now c.args.b c.in_ok-place.place.link c.in_ok-place.place.chunk
here c = block_located _ _ _ c.in_ok-place.ensures

pub returns-in_err-place : goal.returns-in_err-place
unfolding free_on
returns-in_err-place c =
    handed_on no_fields 0 _ _ c.from_residual.ensures.1
    (rw (not_located _ _ _ c.in_err-place.ensures _) (record { answers = refl; leaves = refl }))

pub release-requires : goal.release-requires
release-requires c = let (pre, s, asked, post, _, st, _) = (here (goal.at.release-requires c).In_ok-place).1 in (pre, s, asked, post, st)

pub returns : goal.returns
unfolding free_on
returns c =
    let (opened, (_, _, _, _, spot, st, _)) = here (goal.at.returns c).In_ok-place in
    rw (opened, spot) (record { answers = refl; leaves = c.release.ensures _ _ _ _ st })
