-- `hear_bytes` meets its contract: nothing is heard at first, and each round hears one byte more.
use Rattle.std.proofs.Common.{ℕ, suc, [], ◌∷◌, ◌++◌, ◌+◌, ◌≡◌, refl, ap, ◌∙◌, take, arith, rules}
use lib.ListN.{get_or}
use lib.Seq.{take-suc, take_all}
use Rattle.lines.proofs.Hearing.{none_heard, heard_on}
use Rattle.lines.proofs.hear_bytes.Goals as goal

pub loop-b-init : goal.loop-b-init
loop-b-init c =
    let board = c.args.board.now in
    (refl, none_heard c.args.from board.words.now c.args.out.now board.lent board.lendable)

pub loop-b-preserved : goal.loop-b-preserved
loop-b-preserved c =
    let bytes = c.args.bytes.now in
    let i = c.loop-b.b-index in
    let one_more : i + 1 ≡ suc i = omega arith in
    let next : take (i + 1) bytes ≡ take i bytes ++ get_or bytes i 0 ∷ []
    = ap (λ (k : ℕ). take k bytes) one_more ∙ take-suc bytes i 0 c.loop-b-test.true in
    (search rules, rw next (heard_on _ _ _ _ _ _ _ _ _ _ _ _ _ _ _ c.loop-b.invariant.1 c.hear_byte.ensures.heard))

pub returns-clause-heard : goal.returns-clause-heard
returns-clause-heard c = rw (take_all _ _ c.loop-b-test.false) at c.loop-b.invariant.1
