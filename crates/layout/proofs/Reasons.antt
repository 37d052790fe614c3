-- The numbers of the reasons: none is 0, and no two are the same.
use mathlib.Core.Path.{◌≡◌, refl, sym, ap, ◌∙◌}
use mathlib.Core.List.{[], ◌∷◌}
use Prim.Native.Nat.{ℕ, ◌≤◌}
use native.Mathlib.Omega.{arith}
use lib.ListN.{get_or}
use Rattle.layout.specs.Reasons.{number}
use Rattle.layout.specs.declared.Reason.{Reason}
use Rattle.layout.specs.declared.Reason.TheVariants.{Length, Damaged, NotABlock, Zero, TooLarge, NoRoom, Frame, WouldMove, TextRoom}

-- the code of a refusal is not that of a success
pub number_positive : (why : Reason) → 1 ≤ number why
number_positive Length = omega arith
number_positive Damaged = omega arith
number_positive NotABlock = omega arith
number_positive Zero = omega arith
number_positive TooLarge = omega arith
number_positive NoRoom = omega arith
number_positive Frame = omega arith
number_positive WouldMove = omega arith
number_positive TextRoom = omega arith

-- the reason that has a number; one that no reason has stands for Frame
abbrev reason_of : ℕ → Reason
reason_of n = get_or (Frame ∷ Length ∷ Damaged ∷ NotABlock ∷ Zero ∷ TooLarge ∷ NoRoom ∷ Frame ∷ WouldMove ∷ Frame ∷ Frame ∷ TextRoom ∷ []) n Frame

reason_number : (why : Reason) → reason_of (number why) ≡ why
reason_number Length = refl
reason_number Damaged = refl
reason_number NotABlock = refl
reason_number Zero = refl
reason_number TooLarge = refl
reason_number NoRoom = refl
reason_number Frame = refl
reason_number WouldMove = refl
reason_number TextRoom = refl

pub number_injective : (r r' : Reason) → number r ≡ number r' → r ≡ r'
number_injective r r' e = sym (reason_number r) ∙ ap reason_of e ∙ reason_number r'
