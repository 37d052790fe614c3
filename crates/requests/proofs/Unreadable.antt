-- Lines that cannot be read.
use Prim.Native.Nat.{ℕ}
use mathlib.Core.Path.{◌≡◌, refl}
use mathlib.Core.Bool.{false}
use mathlib.Core.List.{List, [], ◌∷◌, ◌++◌}
use Rattle.digits.specs.Digits.{worth, is_digit}
use Rattle.digits.proofs.DigitRuns.{digits_spoilt}
use Rattle.requests.specs.Requests.{request_of}
use Rattle.requests.specs.declared.Request.TheVariants.{Malformed}

-- a line with a byte that is no digit cannot be read: one with CR, too
pub no_digit : (front back : List ℕ) (b : ℕ) → is_digit b ≡ false → request_of (front ++ b ∷ back) ≡ Malformed
unfolding request_of
no_digit front back b e = rw (digits_spoilt front back b e)

pub carriage_return : (front back : List ℕ) → request_of (front ++ 13 ∷ back) ≡ Malformed
unfolding worth
carriage_return front back = no_digit front back 13 refl

-- nor can an empty one
pub empty_line : request_of [] ≡ Malformed
unfolding request_of
empty_line = refl
