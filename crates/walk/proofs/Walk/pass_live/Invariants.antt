-- What `pass_live` keeps: the walk comes to where the loop stands. The measure is the words that are left.
use Prim.Native.Nat.{◌-◌}
use lib.ListN.{length}
use Rattle.walk.specs.Past.{ComesTo}
use Rattle.walk.proofs.Walk.pass_live.Given as goal

abbrev pub invariant-loop-self : goal.invariant-loop-self
invariant-loop-self l = ComesTo l.initial.self l.self

abbrev pub decreases-loop-self : goal.decreases-loop-self
decreases-loop-self l = length l.self.words.now - l.self.at
