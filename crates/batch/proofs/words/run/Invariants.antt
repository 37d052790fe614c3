-- `batch::words::run` meets its contract. The loop's invariant: the words before the place spell records that are
-- filled, and those behind it are as they came.
use Rattle.std.proofs.Common.{◌*◌, ◌≡◌, length}
use Rattle.batch.proofs.SixWords.{Spelling}
use Rattle.batch.proofs.words.run.Given as goal

abbrev pub invariant-loop-record : goal.invariant-loop-record
invariant-loop-record l =
    (length l.a ≡ length l.initial.a) × (length l.records ≡ length l.initial.records)
    × Spelling l.initial.a l.initial.records (l.record * 6) l.a l.records
