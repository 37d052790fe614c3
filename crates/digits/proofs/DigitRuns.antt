-- Digits in a row: what they make, and what a part of them makes.
use Prim.Native.Nat.{ℕ, zero, suc, ◌+◌, ◌*◌, ◌<◌}
use mathlib.Core.Path.{◌≡◌, refl}
use mathlib.Core.Bool.{true, false, and-false, and-eq-true_iff}
use mathlib.Core.List.{List, [], ◌∷◌, ◌++◌}
use native.Mathlib.Omega.{arith}
use lib.ListN.{length, take, drop, take-append-drop}
use borrow.Author.Tests.{ltb-true}
use Rattle.digits.specs.Digits.{worth, is_digit, all_digits, number_from}

-- ---- which bytes are digits

-- a part of digits is digits
digits_append : (xs ys : List ℕ) → all_digits (xs ++ ys) ≡ true → (all_digits xs ≡ true) × (all_digits ys ≡ true)
digits_append [] ys digits = (refl, digits)
digits_append (b ∷ xs) ys digits =
    let (first, rest) = (and-eq-true_iff (is_digit b) (all_digits (xs ++ ys))).0 digits in
    let (front, back) = digits_append xs ys rest in
    (rw (first, front), back)

pub digits_cut : (k : ℕ) (bs : List ℕ) → all_digits bs ≡ true → (all_digits (take k bs) ≡ true) × (all_digits (drop k bs) ≡ true)
digits_cut k bs digits = digits_append (take k bs) (drop k bs) (rw take-append-drop digits)

-- bytes with one that is no digit are not all digits
pub digits_spoilt : (front back : List ℕ) (b : ℕ) → is_digit b ≡ false → all_digits (front ++ b ∷ back) ≡ false
digits_spoilt [] back b e = rw e
digits_spoilt (c ∷ front) back b e = rw (digits_spoilt front back b e, and-false)

-- ---- what digits make

-- `n` with so many digits 0 behind it
abbrev pub raised : ℕ → ℕ → ℕ
raised n zero = n
raised n (suc digits) = raised (n * 16) digits

-- digits behind a sum raise its first part, and go on with the second
pub number_raised : (m n sum : ℕ) (bs : List ℕ) → sum ≡ m + n → number_from sum bs ≡ raised m (length bs) + number_from n bs
number_raised m n sum [] e = e
number_raised m n sum (b ∷ bs) e = number_raised (m * 16) (n * 16 + worth b) (sum * 16 + worth b) bs (omega arith)

-- digits behind a number below `m` make less than `m` raised
pub number_below : (n m : ℕ) (bs : List ℕ) → all_digits bs ≡ true → n < m → number_from n bs < raised m (length bs)
number_below n m [] digits l = l
number_below n m (b ∷ bs) digits l =
    let (first, rest) = (and-eq-true_iff (is_digit b) (all_digits bs)).0 digits in
    number_below (n * 16 + worth b) (m * 16) bs rest (omega (arith, ltb-true (worth b) 16 first))

pub number_append : (n : ℕ) (xs ys : List ℕ) → number_from n (xs ++ ys) ≡ number_from (number_from n xs) ys
number_append n [] ys = refl
number_append n (b ∷ xs) ys = number_append (n * 16 + worth b) xs ys

-- digits may be read in two parts
pub number_cut : (n k : ℕ) (bs : List ℕ) → number_from n bs ≡ number_from (number_from n (take k bs)) (drop k bs)
number_cut n k bs = rw take-append-drop at (number_append n (take k bs) (drop k bs))
