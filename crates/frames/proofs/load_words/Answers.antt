-- `load_words` meets its contract: each step stores the next word.
use Prim.Native.Nat.{◌+◌, ◌*◌, ◌-◌, ◌%◌}
use mathlib.Core.List.{[], ◌∷◌}
use native.Mathlib.Omega.{arith}
use lib.ListN.{length}
use Rattle.layout.specs.Numbers.{word_values}
use Rattle.spelling.proofs.Filling.{filled_on, filled}
use Rattle.frames.proofs.Lines.{word_next, no_words_left}
use Rattle.frames.proofs.load_words.Goals as goal

pub loop-i-preserved : goal.loop-i-preserved
loop-i-preserved c =
    let x = c.args in
    let i = c.loop-i.i in
    let all = length x.words.now in
    let next = word_next x.text.now (x.at + i * 8) (x.at + (i + 1) * 8) (all - i) (all - (i + 1)) (omega arith) (omega arith) in
    let e = rw (← c.number_at.ensures.is) at next in
    filled_on x.words.now _ i (i + 1) ((c.number_at.result % word_values) ∷ []) _ (omega arith) (omega arith) e c.loop-i.invariant

pub returns : goal.returns
returns c =
    filled c.args.words.now _ c.loop-i.i (omega arith) (no_words_left _ _ (omega arith)) c.loop-i.invariant
