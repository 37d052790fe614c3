-- `report` meets its contract: the answer below is where the arena is refused; the check finds the rest by the lemmas
-- that the function names.
use Rattle.std.proofs.Common.{refl}
use Rattle.walk.proofs.Counted.{no_chunks_shut}
use Rattle.rules.specs.Calls.{report_on}
use Rattle.answers.specs.Readings.{counts_fields}
use Rattle.targets.proofs.Granting.{handed_on}
use Rattle.arena.proofs.report.Goals as goal

pub returns-in_err-chunks : goal.returns-in_err-chunks
unfolding report_on
returns-in_err-chunks c =
    handed_on counts_fields 4 _ _ c.from_residual.ensures.1
    (rw (← no_chunks_shut _ _ c.in_err-chunks.ensures) (record { answers = refl; leaves = refl }))
