-- What a test that came out true says, and what two constructors that are said to be equal.
use Prim.Native.Nat.{ℕ, ◌≤◌, ◌%◌}
use mathlib.Core.Path.{◌≡◌, refl}
use mathlib.Core.Bool.{Bool, true, false, ◌&&◌}
use lib.Dec.{leb, eqb}
use native.Mathlib.Omega.{arith}
use borrow.Author.Tests.{eqb-true, leb-true}
use Rattle.layout.specs.Numbers.{lawful, least_length, greatest_length}

pub both : (p q : Bool) → (p && q) ≡ true → (p ≡ true) × (q ≡ true)
both true q e = (refl, e)
both false q e = (e, cc)

pub lawful_bounds : (n : ℕ) → lawful n ≡ true → (n % 2 ≡ 0) × (least_length ≤ n) × (n ≤ greatest_length)
lawful_bounds n e =
    let p = both (eqb (n % 2) 0) (leb least_length n && leb n greatest_length) e in
    let q = both (leb least_length n) (leb n greatest_length) p.1 in
    (eqb-true _ _ p.0, leb-true _ _ q.0, leb-true _ _ q.1)

-- as `cc` makes it of two that are not the same
pub clash : ◌≡◌ {A = ℕ} 0 1 → ⊥
clash e = omega arith
