-- The measure of the check walk: the words that are left.
use Rattle.std.proofs.Common.{length, ◌-◌}
use Rattle.walk.proofs.Walk.+after_free_after_live.Given as goal

abbrev pub decreases-after_free : goal.decreases-after_free
decreases-after_free l = length l.self.now.words.now - l.self.now.at

abbrev pub decreases-after_live : goal.decreases-after_live
decreases-after_live l = length l.self.now.words.now - l.self.now.at
