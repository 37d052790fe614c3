-- A part of a slice.
use Prim.Native.Nat.{ℕ, ◌+◌, ◌-◌, ◌≤◌}
use mathlib.Core.Path.{◌≡◌, ◌∙◌}
use mathlib.Core.List.{List}
use native.Mathlib.Omega.{arith}
use lib.ListN.{length, take, drop, length-drop}
use lib.Seq.{length-take-le}

-- the part from `start` up to `start + count` has `count` elements
pub part_length : (l : List ℕ) (start count : ℕ) → start + count ≤ length l → length (take (start + count - start) (drop start l)) ≡ count
part_length l start count h =
    length-take-le (start + count - start) (drop start l) (omega (arith, length-drop start l)) ∙ omega arith
