-- Steps that are taken until one fails.
use Rattle.std.specs.Prelude.{ℕ, ◌+◌, ◌-◌, ◌^◌, ◌<◌, Result, Ok, Err}

-- the most steps that are taken, where none fails
abbrev pub most_steps : ℕ
most_steps = 2 ^ 64 - 1

-- what a step from one state may answer, and the state that it leaves
module _ {F E : Type 0} (step : F → Result (Unit {0}) E → F → Type 0) where
  -- so many steps in a row that succeed, from `first` on, and the state that the last of them leaves
  pub data Succeed (first : F) : ℕ → F → Type 0 where
    begun : Succeed first 0 first
    next : {count : ℕ} {before after : F} → Succeed first count before → step before (Ok tt) after
        → Succeed first (count + 1) after

  -- from `first` to `last`: steps that succeed, and then one that fails; or the most that are taken, which all succeed
  pub data UntilOneFails (first last : F) : Type 0 where
    failed : {count : ℕ} {before : F} {cause : E} → Succeed first count before → count < most_steps
        → step before (Err cause) last → UntilOneFails first last
    none_failed : Succeed first most_steps last → UntilOneFails first last
