-- A step that answers no error is one more that succeeded, and one that answers an error is the last. That all of the
-- most succeeded, where none failed, the check finds.
use Rattle.std.proofs.Common.{of_calls, rules, refl, ◌≡◌, true, false, arith}
use Rattle.std.specs.Prelude.{Result, Ok, Err}
use Rattle.std.specs.Result.{is_err}
use Rattle.wire.specs.Steps.{begun, next, failed}
use Rattle.wire.proofs.run_until_it_fails.Goals as goal

-- an answer that is no error is `Ok`
ok_where_no_error : {E : Type 0} (answer : Result (Unit {0}) E) → is_err answer ≡ false → answer ≡ Ok tt
ok_where_no_error (Ok u) h = refl
ok_where_no_error (Err cause) h = absurd (cc)

-- and one that is an error is `Err`
err_where_error : {E : Type 0} (answer : Result (Unit {0}) E) → is_err answer ≡ true → (cause : E) × (answer ≡ Err cause)
err_where_error (Ok u) h = absurd (cc)
err_where_error (Err cause) h = (cause, refl)

pub loop-init : goal.loop-init
loop-init g c = (c.requires, begun)

pub loop-preserved : goal.loop-preserved
loop-preserved g c =
    let answered = ok_where_no_error c.step.result (search rules) in
    (search of_calls, next c.loop.invariant.1 (rw (← answered) (search rules)))

pub returns-then-is_err : goal.returns-then-is_err
returns-then-is_err g c =
    let answered = err_where_error c.step.result (search rules) in
    failed {cause = answered.0} c.loop.invariant.1 (omega arith) (rw (← answered.1) (search rules))
