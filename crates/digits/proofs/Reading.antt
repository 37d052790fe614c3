-- Numbers that are written as digits can be read back.
use Prim.Native.Nat.{ℕ, ◌+◌, ◌-◌, ◌*◌, ◌/◌, ◌%◌, ◌<◌}
use mathlib.Core.Path.{◌≡◌, refl, ap, ◌∙◌}
use mathlib.Core.Logic.{◌⊎◌, inl, inr}
use mathlib.Core.Bool.{Bool, true, false, cond}
use native.Mathlib.Omega.{arith}
use lib.Dec.{ltb}
use borrow.Author.Tests.{ltb-true, ltb-false}
use Rattle.digits.specs.Digits.{between, worth, number_from, number_of, glyph, two_digits, four_digits, eight_digits, four_digit_values, two_digit_values}
use Rattle.digits.proofs.Ranges.{inside, above, worth_known}
use Rattle.digits.proofs.DigitRuns.{number_append}

-- the byte of a digit is one of 0 to 9, or one of A to F
abbrev pub UpperDigit : ℕ → Type 0
UpperDigit b = (between 48 57 b ≡ true) ⊎ (between 65 70 b ≡ true)

pub glyph_upper : (d : ℕ) → d < 16 → UpperDigit (glyph d)
unfolding glyph
glyph_upper d l = go (ltb d 10) refl
  where
    go : (small : Bool) → ltb d 10 ≡ small → UpperDigit (cond small (48 + d) (65 + (d - 10)))
    go true e = inl (inside 48 57 (48 + d) (omega arith) (omega (arith, ltb-true d 10 e)))
    go false e = inr (inside 65 70 (65 + (d - 10)) (omega (arith, ltb-false d 10 e)) (omega arith))

-- that byte is worth the digit
pub worth_glyph : (d : ℕ) → d < 16 → worth (glyph d) ≡ d
unfolding glyph
worth_glyph d l = go (ltb d 10) refl
  where
    go : (small : Bool) → ltb d 10 ≡ small → worth (cond small (48 + d) (65 + (d - 10))) ≡ d
    go true e =
        worth_known (48 + d) true _ _ (inside 48 57 (48 + d) (omega arith) (omega (arith, ltb-true d 10 e))) refl refl ∙ omega arith
    go false e =
        let ten = ltb-false d 10 e in
        let b = 65 + (d - 10) in
        let no-figure : between 48 57 b ≡ false = above 48 57 b (omega arith) in
        let letter : between 65 70 b ≡ true = inside 65 70 b (omega arith) (omega arith) in
        worth_known b false true _ no-figure letter refl ∙ omega arith

-- ---- a number's last digits, behind those that made `n`

two_behind : (n v : ℕ) → number_from n (two_digits v) ≡ n * 256 + v % 256
two_behind n v = rw (worth_glyph (v / 16 % 16) (omega arith), worth_glyph (v % 16) (omega arith)) (omega arith)

four_behind : (n v : ℕ) → number_from n (four_digits v) ≡ n * 65536 + v % 65536
four_behind n v =
    number_append n (two_digits (v / 256)) (two_digits v) ∙ two_behind (number_from n (two_digits (v / 256))) v
    ∙ ap (λ (k : ℕ). k * 256 + v % 256) (two_behind n (v / 256)) ∙ omega arith

-- two digits tell a number below 256, four a field, eight a word

pub two_read : (v : ℕ) → v < two_digit_values → number_of (two_digits v) ≡ v
two_read v fits = two_behind 0 v ∙ omega arith

pub four_read : (v : ℕ) → v < four_digit_values → number_of (four_digits v) ≡ v
four_read v fits = four_behind 0 v ∙ omega arith

pub eight_read : (v : ℕ) → v < four_digit_values * four_digit_values → number_of (eight_digits v) ≡ v
eight_read v fits =
    number_append 0 (four_digits (v / 65536)) (four_digits v) ∙ four_behind (number_of (four_digits (v / 65536))) v
    ∙ ap (λ (k : ℕ). k * 65536 + v % 65536) (four_behind 0 (v / 65536)) ∙ omega arith
