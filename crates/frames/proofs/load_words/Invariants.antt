-- The loop's invariant: the words stored so far, and those in the text behind them, are all the words.
use Prim.Native.Nat.{◌+◌, ◌*◌, ◌-◌}
use lib.ListN.{length, drop}
use Rattle.rules.specs.Pictures.{words_in}
use Rattle.spelling.proofs.Filling.{Filling}
use Rattle.frames.proofs.load_words.Given as goal

abbrev pub invariant-loop-i : goal.invariant-loop-i
invariant-loop-i l =
    let all = length l.initial.words in
    Filling l.initial.words l.words l.i (words_in (all - l.i) (drop (l.at + l.i * 8) l.text)) (words_in all (drop l.at l.text))
