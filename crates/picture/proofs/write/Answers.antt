-- `write` meets its contract: the arena's gate is shut, there is too little room, or the picture is put.
use Rattle.std.proofs.Common.{◌∙◌, sym, arith}
use Rattle.std.proofs.lemmas.Result.{err_from_is_err_and}
use Rattle.picture.proofs.LineByLine.{writes_shut, writes_short, writes_put}
use Rattle.picture.proofs.write.Goals as goal

pub returns-in_err-check_arena : goal.returns-in_err-check_arena
returns-in_err-check_arena c =
    let p = err_from_is_err_and c.from_residual.result c.from_residual.ensures.1 in
    rw (p.1, p.2) (writes_shut _ _ _ (sym c.in_err-check_arena.was ∙ c.check_arena.ensures))

pub returns-then-text-picture_length : goal.returns-then-text-picture_length
returns-then-text-picture_length c = writes_short _ _ (sym c.in_ok-check_arena.was ∙ c.check_arena.ensures) (omega arith)

pub returns : goal.returns
returns c = writes_put _ _ (sym c.in_ok-check_arena.was ∙ c.check_arena.ensures) (omega arith) c.put_picture.ensures
