-- `make` meets its contract: each arm makes the request's own call on the lent words, and a malformed line none.
use Rattle.std.proofs.Common.{rules, refl, sym, take}
use Rattle.rules.proofs.Calls.{alloc_behaves, free_behaves, realloc_behaves}
use Rattle.requests.specs.declared.Request.TheVariants.{Alloc, Free, Realloc, Report, Malformed}
use Rattle.replies.specs.Boards.{outcome_of}
use Rattle.replies.proofs.Answering.{lent_made}
use Rattle.replies.proofs.Board.make.Goals as goal

pub returns-in-Alloc-clause-made : goal.returns-in-Alloc-clause-made
unfolding outcome_of
returns-in-Alloc-clause-made c =
    let board = c.args.self.now in
    let n = c.in-Alloc.n in
    rw c.in-Alloc.is
    (lent_made (Alloc n) board.words.now board.lent _ _ refl (alloc_behaves (take board.lent board.words.now) n).unchanged board.lendable (search rules)
    c.alloc.ensures c.in_numbers-in-Alloc.ensures)

pub returns-in-Free-clause-made : goal.returns-in-Free-clause-made
unfolding outcome_of
returns-in-Free-clause-made c =
    let board = c.args.self.now in
    let b = c.in-Free.b in
    rw c.in-Free.is
    (lent_made (Free b) board.words.now board.lent _ _ refl (free_behaves (take board.lent board.words.now) b).unchanged board.lendable (search rules)
    c.free.ensures c.in_numbers-in-Free.ensures)

pub returns-in-Realloc-clause-made : goal.returns-in-Realloc-clause-made
unfolding outcome_of
returns-in-Realloc-clause-made c =
    let board = c.args.self.now in
    let b = c.in-Realloc.b in
    let n = c.in-Realloc.n in
    rw c.in-Realloc.is
    (lent_made (Realloc b n) board.words.now board.lent _ _ refl (realloc_behaves (take board.lent board.words.now) b n).unchanged board.lendable (search rules)
    c.realloc.ensures c.in_numbers-in-Realloc.ensures)

pub returns-in-Report-clause-made : goal.returns-in-Report-clause-made
unfolding outcome_of
returns-in-Report-clause-made c =
    let board = c.args.self.now in
    rw c.in-Report.is (lent_made Report board.words.now board.lent _ _ refl (λ not. sym c.report.ensures.leaves) board.lendable (search rules)
    c.report.ensures c.in_numbers-in-Report.ensures)

pub returns-in-Malformed-clause-made : goal.returns-in-Malformed-clause-made
unfolding outcome_of
returns-in-Malformed-clause-made c =
    let board = c.args.self.now in
    rw c.in-Malformed.is
    (lent_made Malformed board.words.now board.lent _ _ refl (λ not. refl) board.lendable (search rules) (record { answers = refl; leaves = refl }) c.refusal_numbers.ensures)
