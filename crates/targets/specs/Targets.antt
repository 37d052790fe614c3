-- What a call is asked for, and what it answers, as the functions inside say it. No public contract cites this file.
use Rattle.std.specs.Prelude.{ℕ, ◌≤◌, List, length, Option, None, Some, Result, Ok, Err, ok_or}
use Rattle.layout.specs.Numbers.{need, greatest_length}
use Rattle.layout.specs.Walk.{chunks_of}
use Rattle.layout.specs.Reasons.{Gate, arena_gate, request_gate}
use Rattle.layout.specs.declared.Ask.{Ask}
use Rattle.layout.specs.declared.Reason.{Reason}
use Rattle.layout.specs.declared.Reason.TheVariants.{NotABlock, NoRoom}
use Rattle.rules.specs.Answers.{settle, Gives}
use Rattle.rules.specs.Spots.{Spot, held}
use Rattle.rules.specs.Calls.{granted}
use Rattle.answers.specs.Readings.{Granted, granted_numbers}
use Rattle.passes.specs.Places.{place_of}
use Rattle.passes.specs.declared.places.Place.{Place}
use Rattle.ways.specs.Ways.{allotting, PickedAt}
use Rattle.targets.specs.declared.Target.{Target}

-- past a gate
abbrev pub past : {A : Type 0} → Gate → Result A Reason → Result A Reason
past (Err why) asked = Err why
past (Ok _) asked = asked

-- what a request for `n` words comes to
abbrev pub ask_of : ℕ → Ask
ask_of n = record { need = need n; asked = n }

-- what a request for `n` words in an arena of so many words comes to, or why it is refused
unfoldable pub need_in : ℕ → ℕ → Result Ask Reason
need_in words n = past (request_gate words n) (Ok (ask_of n))

-- what a request for a new block comes to, or why it is refused: the arena is looked at first, then the request
unfoldable pub asked_for : List ℕ → ℕ → Result Ask Reason
asked_for a n = past (arena_gate a) (need_in (length a) n)

-- where block `b` stands, or why a call on it is refused: the arena is looked at first, then the block
unfoldable pub located : List ℕ → ℕ → Result Place Reason
located a b = past (arena_gate a) (ok_or (place_of (held b (chunks_of a))) NotABlock)

-- by where the block stands and by what is asked
abbrev pub target_by : Result Place Reason → Result Ask Reason → Result Target Reason
target_by (Err why) asked = Err why
target_by (Ok place) (Err why) = Err why
target_by (Ok place) (Ok ask) = Ok (record { place = place; ask = ask })

-- the block and what is asked of it, or why it is refused: the block is looked at first, then the request
unfoldable pub target_of : List ℕ → ℕ → ℕ → Result Target Reason
target_of a b n = target_by (located a b) (need_in (length a) n)

-- what was picked for a need is granted as an alloc answers it
abbrev pub GrantsFrom : List ℕ → ℕ → ℕ → Option Place → Granted → List ℕ → Type 0
GrantsFrom a need asked place answer after =
    (spot : Spot) → PickedAt a need place spot → Gives (settle 2 a (granted NoRoom (allotting need asked spot a))) (granted_numbers answer) after

-- the start of a chunk that a search found, `rover` where it found none
abbrev pub start_in : ℕ → Option Place → ℕ
start_in rover (Some place) = place.chunk
start_in rover None = rover

-- it is no more than the longest arena's length
abbrev pub StartSmall : Option Place → Type 0
StartSmall place = start_in 0 place ≤ greatest_length
