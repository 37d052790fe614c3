-- `ways::allot` meets its contract: nothing was picked, or a free chunk that fits, from which `take` takes the need.
use Rattle.std.proofs.Common.{sym, ◌∙◌}
use Rattle.passes.proofs.Finding.{FoundGap, found_gap}
use Rattle.ways.proofs.Allotting.{took_small, allot_shut, allot_grants}
use Rattle.ways.proofs.allot.Goals as goal
use Rattle.ways.proofs.allot.Goals.{In_ok-place}

-- one was picked, that of a free chunk
picked : (c : In_ok-place) → FoundGap c.requires.2.0 c.args.a.now c.args.ask.need c.in_ok-place.field-0.link c.in_ok-place.field-0.chunk
picked c = let (spot, (picks, is)) = c.requires.2 in found_gap _ _ spot picks _ _ c.requires.0 (sym c.in_ok-place.was ∙ is)

pub returns-in_err-place : goal.returns-in_err-place
returns-in_err-place c spot (picks, is) = rw c.from_residual.ensures (allot_shut _ _ _ spot (sym c.in_err-place.was ∙ is))

pub take-requires : goal.take-requires
take-requires c =
    let (pre, s, post, _, st, enough) = picked (goal.at.take-requires c).In_ok-place in
    (pre, s, post, st, enough, c.requires.1)

pub grant-requires : goal.grant-requires
grant-requires c =
    let (_, _, _, _, st, enough) = picked (goal.at.grant-requires c).In_ok-place in
    took_small st enough (c.take.ensures _ _ _ st)

pub returns : goal.returns
returns c spot (picks, is) =
    let (pre, s, post, is, st, _) = found_gap _ _ spot picks _ _ c.requires.0 (sym c.in_ok-place.was ∙ is) in
    rw c.grant.ensures (allot_grants _ _ _ spot pre s post _ _ is (c.take.ensures _ _ _ st))
