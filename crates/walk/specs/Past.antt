-- What a check walk comes to. No public contract of a call cites this file.
use Rattle.std.specs.Prelude.{ℕ, ◌+◌, ◌<◌, ◌≤◌, ◌≡◌, ◌≢◌, Bool, false, length, get_or, Option, None}
use Rattle.layout.specs.Walk.{is_live, walk_from}
use Rattle.walk.specs.Steps.{size_at, met_by}
use Rattle.walk.specs.declared.Walk.{Walk}

-- how many chunks a walk has met at the end; None where it breaks
abbrev pub met_from : Walk → ℕ → Bool → Option ℕ
met_from walk want after_free = met_by walk.met (walk_from walk.words.now walk.at want after_free)

-- a walk that stands behind a live chunk comes to another place of the same words, and from there to the same end
pub record ComesTo (from to : Walk) : Type 0 where
  pub words : to.words ≡ from.words
  pub above : from.at ≤ to.at
  pub same : (want : ℕ) → met_from from want false ≡ met_from to want false

-- it has come past all live chunks that follow each other there
pub record PastLive (from to : Walk) : Type 0 where
  pub comes : ComesTo from to
  pub stops : to.at < length to.words.now → size_at to.words.now to.at ≢ None → is_live (get_or to.words.now (to.at + 1) 0) ≡ false
