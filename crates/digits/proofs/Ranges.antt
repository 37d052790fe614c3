-- What it says of a byte that it lies in a range of digits, or in none.
use Prim.Native.Nat.{ℕ, ◌+◌, ◌-◌, ◌≤◌, ◌<◌}
use mathlib.Core.Path.{◌≡◌, ap, ◌∙◌}
use mathlib.Core.Bool.{Bool, true, false, cond, and-false, and-eq-true_iff}
use lib.Dec.{leb}
use borrow.Author.Tests.{leb-true, le-leb, lt-leb}
use Rattle.digits.specs.Digits.{between, worth}

pub within : (first last b : ℕ) → between first last b ≡ true → (first ≤ b) × (b ≤ last)
within first last b e = let p = (and-eq-true_iff (leb first b) (leb b last)).0 e in (leb-true _ _ p.0, leb-true _ _ p.1)

-- and the other way round
pub inside : (first last b : ℕ) → first ≤ b → b ≤ last → between first last b ≡ true
inside first last b least most = rw (le-leb first b least, le-leb b last most)

pub below : (first last b : ℕ) → b < first → between first last b ≡ false
below first last b h = rw (lt-leb first b h)

pub above : (first last b : ℕ) → last < b → between first last b ≡ false
above first last b h = rw (lt-leb b last h) (and-false (leb first b))

-- the three tests say what a byte is worth
pub worth_known : (b : ℕ) (p q r : Bool) → between 48 57 b ≡ p → between 65 70 b ≡ q → between 97 102 b ≡ r
    → worth b ≡ cond p (b - 48) (cond q (b - 65 + 10) (cond r (b - 97 + 10) 16))
unfolding worth
worth_known b p q r e f g =
    ap (λ (t : Bool). cond t (b - 48) (cond (between 65 70 b) (b - 65 + 10) (cond (between 97 102 b) (b - 97 + 10) 16))) e
    ∙ ap (λ (t : Bool). cond p (b - 48) (cond t (b - 65 + 10) (cond (between 97 102 b) (b - 97 + 10) 16))) f
    ∙ ap (λ (t : Bool). cond p (b - 48) (cond q (b - 65 + 10) (cond t (b - 97 + 10) 16))) g
