-- Hexadecimal digits as bytes: either case is read, upper case is written.
use Rattle.std.specs.Prelude.{ℕ, zero, suc, ◌+◌, ◌-◌, ◌*◌, ◌/◌, ◌%◌, Bool, true, cond, ◌&&◌, List, [], ◌∷◌, ◌++◌, leb, ltb}

-- the byte that ends a line
abbrev pub line_end : ℕ
line_end = 10

-- a byte is one of those from `first` to `last`
abbrev pub between : ℕ → ℕ → ℕ → Bool
between first last b = leb first b && leb b last

-- what a byte is worth as a digit, 16 where it is none: bytes 48 to 57 are the digits 0 to 9, 65 to 70 are A to F,
-- 97 to 102 are a to f
unfoldable pub worth : ℕ → ℕ
worth b = cond (between 48 57 b) (b - 48) (cond (between 65 70 b) (b - 65 + 10) (cond (between 97 102 b) (b - 97 + 10) 16))

abbrev pub is_digit : ℕ → Bool
is_digit b = ltb (worth b) 16

abbrev pub all_digits : List ℕ → Bool
all_digits [] = true
all_digits (b ∷ bs) = is_digit b && all_digits bs

-- the number that digits make, behind those that made `sum`
abbrev pub number_from : ℕ → List ℕ → ℕ
number_from sum [] = sum
number_from sum (b ∷ bs) = number_from (sum * 16 + worth b) bs

abbrev pub number_of : List ℕ → ℕ
number_of bs = number_from 0 bs

-- a letter a to f as the capital A to F, any other byte as it is
unfoldable pub upper : ℕ → ℕ
upper b = cond (between 97 102 b) (b - 97 + 65) b

-- the byte of a digit: 0 to 9, or A to F
unfoldable pub glyph : ℕ → ℕ
glyph d = cond (ltb d 10) (48 + d) (65 + (d - 10))

-- what two digits make is below this number, and what four make
abbrev pub two_digit_values : ℕ
two_digit_values = 256

abbrev pub four_digit_values : ℕ
four_digit_values = 65536

-- so many of a number's last digits
unfoldable pub digits_of : ℕ → ℕ → List ℕ
digits_of zero v = []
digits_of (suc more) v = digits_of more (v / 16) ++ glyph (v % 16) ∷ []

-- its last two, its last four, and its last eight: that `digits_of` gives them is proved in `Counts`
abbrev pub two_digits : ℕ → List ℕ
two_digits v = glyph (v / 16 % 16) ∷ glyph (v % 16) ∷ []

abbrev pub four_digits : ℕ → List ℕ
four_digits v = two_digits (v / two_digit_values) ++ two_digits v

abbrev pub eight_digits : ℕ → List ℕ
eight_digits v = four_digits (v / four_digit_values) ++ four_digits v

-- numbers one after the other, each in its digits
abbrev pub in_digits : (ℕ → List ℕ) → List ℕ → List ℕ
in_digits digits [] = []
in_digits digits (v ∷ vs) = digits v ++ in_digits digits vs
