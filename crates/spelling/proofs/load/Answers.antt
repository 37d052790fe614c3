-- One word more is stored; and at the end no four bytes are left.
use Prim.Native.Nat.{◌+◌, ◌*◌}
use mathlib.Core.List.{[], ◌∷◌}
use native.Mathlib.Omega.{arith}
use Rattle.spelling.proofs.Filling.{filled_on, filled}
use Rattle.spelling.proofs.Words.{words_next, no_words}
use Rattle.spelling.proofs.load.Goals as goal

pub loop-i-preserved : goal.loop-i-preserved
loop-i-preserved c =
    let x = c.args in
    let i = c.loop-i.i in
    let e =
    words_next x.bytes.now _ i (4 * (i + 1)) c.from_le_bytes.result c.as_chunks.ensures.front c.from_le_bytes.ensures (omega arith)
    (omega arith) in
    filled_on x.words.now _ i (i + 1) (c.from_le_bytes.result ∷ []) _ (omega arith) (omega arith) e c.loop-i.invariant

pub returns : goal.returns
returns c =
    let x = c.args in
    let i = c.loop-i.i in
    filled x.words.now _ i (omega arith) (no_words x.bytes.now (4 * i) (omega arith)) c.loop-i.invariant
