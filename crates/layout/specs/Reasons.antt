-- The reasons for saying no, with their numbers, and the first two: the gate of words that have to be a sound arena.
use Rattle.std.specs.Prelude.{ℕ, List, cond, length, leb, eqb, Result, Ok, Err}
use Rattle.layout.specs.Numbers.{lawful, greatest_request}
use Rattle.layout.specs.Walk.{sound}
use Rattle.layout.specs.declared.Reason.{Reason}
use Rattle.layout.specs.declared.Reason.TheVariants.{Length, Damaged, NotABlock, Zero, TooLarge, NoRoom, Frame, WouldMove, TextRoom}

abbrev pub number : Reason → ℕ
number Length = 1
number Damaged = 2
number NotABlock = 3
number Zero = 4
number TooLarge = 5
number NoRoom = 6
number Frame = 7
number WouldMove = 8
number TextRoom = 11

-- whether a call may go on: with nothing more to say, or refused with a reason
abbrev pub Gate : Type 0
Gate = Result (Unit {0}) Reason

-- Length, or else Damaged, for the lent words
unfoldable pub arena_gate : List ℕ → Gate
arena_gate a = cond (lawful (length a)) (cond (sound a) (Ok tt) (Err Damaged)) (Err Length)

-- Zero, or else TooLarge, for a request of `n` words in an arena of `size` words
unfoldable pub request_gate : ℕ → ℕ → Gate
request_gate size n = cond (eqb n 0) (Err Zero) (cond (leb n (greatest_request size)) (Ok tt) (Err TooLarge))
