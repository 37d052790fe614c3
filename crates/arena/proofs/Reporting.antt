-- What the report's counts rest on.
use Rattle.walk.proofs.Counted.{chunks_open}
use Rattle.rules.proofs.Gates.{gate_open}
use Rattle.rules.proofs.ReportCounts.{counts_small, live_or_free}

-- what `report` cites
pub ruleset report_laws = (chunks_open, gate_open, counts_small, live_or_free)
