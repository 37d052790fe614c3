-- What may happen to an arena: a call, which a library answers, or a store by the holder of a block.
use Rattle.std.specs.Prelude.{ℕ, ◌+◌, List, [], set}
use Rattle.rules.specs.Answers.{Outcome, success}
use Rattle.rules.specs.Libraries.{Call, Library}

-- a store is of value `v`, at place `i` of block `b`
pub data Event : Type 0 where
  call : Call → Event
  store : (b i v : ℕ) → Event

-- what an event comes to; a store is the holder's own, and is always done
abbrev pub happens : Library → Event → List ℕ → Outcome
happens library (call c) a = library c a
happens library (store b i v) a = record { answer = success []; words = set a (b + i) v }
