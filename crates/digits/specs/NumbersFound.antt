-- Numbers that are found in a text.
use Rattle.std.specs.Prelude.{ℕ, zero, suc, ◌+◌, ◌*◌, ◌≤◌, ◌≡◌, List, take, drop}
use Rattle.digits.specs.Digits.{number_of}

-- `r` is the number that so many bytes of a text make, from byte `at` on: at most `most`, whatever bytes they are
pub record NumberAt (text : List ℕ) (at digits most r : ℕ) : Type 0 where
  pub is : r ≡ number_of (take digits (drop at text))
  pub bounded : r ≤ most

-- the most that so many bytes make: each of them counts for 16 at most
abbrev pub most_of : ℕ → ℕ
most_of zero = 0
most_of (suc more) = most_of more * 16 + 16
