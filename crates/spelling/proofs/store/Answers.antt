-- One word more is stored; and at the end no word is left.
use Prim.Native.Nat.{◌+◌, ◌*◌}
use mathlib.Core.Path.{◌≡◌, ◌∙◌}
use native.Mathlib.Omega.{arith}
use lib.ListN.{get_or}
use Rattle.spelling.specs.Words.{four_of}
use Rattle.spelling.proofs.Filling.{copied_on, filled}
use Rattle.spelling.proofs.Words.{bytes_next, no_bytes}
use Rattle.spelling.proofs.store.Goals as goal

pub loop-i-preserved : goal.loop-i-preserved
loop-i-preserved c =
    let x = c.args in
    let i = c.loop-i.i in
    let word = get_or x.words.now i 0 in
    let four = four_of word in
    let stored : c.copy_from_slice.new.self ≡ four =
    c.copy_from_slice.ensures.after ∙ c.to_le_bytes.ensures in
    rw stored
    (copied_on x.bytes.now _ (4 * i) (4 * i + 4) (4 * (i + 1)) four _ (omega arith) (omega arith) (omega arith)
    (bytes_next x.words.now i (omega arith)) c.loop-i.invariant)

pub returns : goal.returns
returns c =
    let x = c.args in
    let i = c.loop-i.i in
    filled x.bytes.now _ (4 * i) (omega arith) (no_bytes x.words.now i (omega arith)) c.loop-i.invariant
