-- The loop's invariant: the two are the same if they were alike so far and are the same from byte `i` on.
use Rattle.std.proofs.Common.{◌≡◌, ◌&&◌, map, drop}
use Rattle.digits.specs.Digits.{upper}
use Rattle.rules.specs.Pictures.{same}
use Rattle.frames.proofs.matches.Given as goal

abbrev pub invariant-loop-i : goal.invariant-loop-i
invariant-loop-i l = same (map upper l.part) l.expected ≡ (l.alike && same (map upper (drop l.i l.part)) (drop l.i l.expected))
