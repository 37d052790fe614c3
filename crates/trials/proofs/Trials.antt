-- What the contracts of the calls say of a case.
use Prim.Native.Nat.{ℕ, ◌≤◌}
use mathlib.Core.List.{List}
use native.Mathlib.Omega.{arith}
use lib.ListN.{length, length-take, length-drop}
use Rattle.rules.specs.Calls.{view_on}
use Rattle.arena.specs.Views.{Views}

-- a view is no longer than the arena
view_short : (a : List ℕ) (b : ℕ) → length (view_on a b) ≤ length a
unfolding view_on
view_short a b = simp (length-take, length-drop) (omega arith)

-- nor is a part that is handed back
pub viewed_short : {a : List ℕ} {place : ℕ × ℕ} {b : ℕ} {part : List ℕ} {lies : ℕ × ℕ} → Views a place b part lies → length part ≤ length a
viewed_short {a} {b = b} v = rw v.holds (view_short a b)
