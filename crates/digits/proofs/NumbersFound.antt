-- Numbers found in a text, byte after byte.
use Prim.Native.Nat.{ℕ, zero, suc, ◌+◌, ◌*◌, ◌≤◌, ◌<◌}
use mathlib.Core.Path.{◌≡◌, refl, sym, ap, ◌∙◌}
use mathlib.Core.Bool.{Bool, true, false}
use mathlib.Core.List.{List, [], ◌∷◌}
use native.Mathlib.Omega.{arith}
use native.Mathlib.Numerals.{add-one}
use lib.ListN.{length, get_or, take}
use lib.Seq.{take-suc}
use Rattle.digits.specs.Digits.{between, worth}
use Rattle.digits.specs.NumbersFound.{NumberAt, most_of}
use Rattle.digits.proofs.Ranges.{within, worth_known}
use Rattle.digits.proofs.DigitRuns.{number_append}

-- no byte is worth more than 16
pub worth_most : (b : ℕ) → worth b ≤ 16
worth_most b = go (between 48 57 b) (between 65 70 b) (between 97 102 b) refl refl refl
  where
    go : (p q r : Bool) → between 48 57 b ≡ p → between 65 70 b ≡ q → between 97 102 b ≡ r → worth b ≤ 16
    go true q r e f g = omega (arith, worth_known b true q r e f g, within 48 57 b e)
    go false true r e f g = omega (arith, worth_known b false true r e f g, within 65 70 b f)
    go false false true e f g = omega (arith, worth_known b false false true e f g, within 97 102 b g)
    go false false false e f g = omega (arith, worth_known b false false false e f g)

-- more bytes can make more
pub most_grows : (few many : ℕ) → few ≤ many → most_of few ≤ most_of many
most_grows zero many h = omega arith
most_grows (suc few) zero h = absurd (omega arith)
most_grows (suc few) (suc many) h = omega (arith, most_grows few many (omega arith))

-- one byte more
pub found_on : (bs : List ℕ) (i number : ℕ) → i < length bs → NumberAt bs 0 i (most_of i) number
    → NumberAt bs 0 (i + 1) (most_of (i + 1)) (number * 16 + worth (get_or bs i 0))
found_on bs i number less found =
    record {
      is = rw (add-one, take-suc bs i 0 less) (ap (λ (n : ℕ). n * 16 + worth (get_or bs i 0)) found.is ∙ sym (number_append 0 (take i bs) (get_or bs i 0 ∷ [])));
      bounded = rw add-one (omega (arith, found.bounded, worth_most (get_or bs i 0)));
    }
