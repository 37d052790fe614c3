-- The last two digits of a number, its last four and its last eight are so many of its last digits; the most that they
-- make.
use Prim.Native.Nat.{ℕ, ◌/◌}
use mathlib.Core.Path.{◌≡◌, refl, ap, ap₂, ◌∙◌}
use mathlib.Core.List.{List, [], ◌∷◌, ◌++◌}
use native.Mathlib.Omega.{arith}
use Rattle.digits.specs.Digits.{digits_of, two_digits, four_digits, eight_digits, in_digits}
use Rattle.digits.specs.NumbersFound.{most_of}

pub two_of : (v : ℕ) → digits_of 2 v ≡ two_digits v
unfolding digits_of
two_of v = refl

-- four digits are two and two
pub four_of : (v : ℕ) → digits_of 4 v ≡ four_digits v
unfolding digits_of
four_of v =
    let third : v / 16 / 16 / 16 ≡ v / 256 / 16 = omega arith in
    let fourth : v / 16 / 16 ≡ v / 256 = omega arith in
    rw (third, fourth)

-- eight are four and four
pub eight_of : (v : ℕ) → digits_of 8 v ≡ eight_digits v
unfolding digits_of
eight_of v =
    let front : v / 16 / 16 / 16 / 16 ≡ v / 65536 = omega arith in
    ap (λ (n : ℕ). digits_of 4 n ++ digits_of 4 v) front ∙ ap₂ ◌++◌ (four_of (v / 65536)) (four_of v)

-- numbers one after the other, each in digits that are the same
pub in_same : (f g : ℕ → List ℕ) → ((v : ℕ) → f v ≡ g v) → (vs : List ℕ) → in_digits f vs ≡ in_digits g vs
in_same f g same [] = refl
in_same f g same (v ∷ vs) = ap₂ ◌++◌ (same v) (in_same f g same vs)

-- ---- the most that two bytes make, four, and eight

pub two_most : most_of 2 ≡ 272
two_most = refl

pub four_most : most_of 4 ≡ 69904
four_most = refl

pub eight_most : most_of 8 ≡ 4581298448
eight_most = refl
