-- The steps so far succeeded, and the step may be taken again.
use Rattle.wire.specs.Steps.{Succeed}
use Rattle.wire.proofs.run_until_it_fails.Given as goal

abbrev pub invariant-loop : goal.invariant-loop
invariant-loop g l = goal.F-IsAlwaysCallable g l.step × Succeed (goal.F-step g) l.fn.step l.counter l.step
