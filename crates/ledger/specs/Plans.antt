-- Plans: how many blocks are always to be had, whatever was asked for and freed before. `n` is the arena's number of
-- words, `w` how many words are asked for.
use Rattle.std.specs.Prelude.{ℕ, ◌+◌, ◌-◌, ◌*◌, ◌%◌, ◌≤◌, ◌<◌, ◌≡◌, length}
use Rattle.layout.specs.Numbers.{control_words, header_words, least_split, need}
use Rattle.rules.specs.Scattered.{scattered}
use Rattle.rules.specs.Fits.{Fit}
use Rattle.rules.specs.Libraries.{start, alloc, free, resize, relocate, realloc, size, view, report, write, read, Library}
use Rattle.ledger.specs.Events.{Event, call, store}
use Rattle.ledger.specs.Ledger.{Entry, Done, Listed}
use Rattle.ledger.specs.Runs.{State, answer_to, Run, begun, arrived, next}

-- an event asks for at most so many words, and is no reading
abbrev pub EventAsksAtMost : ℕ → Event → Type 0
EventAsksAtMost most (call start) = Unit {0}
EventAsksAtMost most (call (alloc fit w)) = w ≤ most
EventAsksAtMost most (call (free b)) = Unit {0}
EventAsksAtMost most (call (resize b w)) = w ≤ most
EventAsksAtMost most (call (relocate b w)) = w ≤ most
EventAsksAtMost most (call (realloc b w)) = w ≤ most
EventAsksAtMost most (call (size b)) = Unit {0}
EventAsksAtMost most (call (view b)) = Unit {0}
EventAsksAtMost most (call report) = Unit {0}
EventAsksAtMost most (call (write text)) = Unit {0}
EventAsksAtMost most (call (read text)) = ⊥
EventAsksAtMost most (store b i v) = Unit {0}

module _ (library : Library) where
  -- ---- by the blocks that are held

  -- in a state with at most `blocks` blocks, each with at most `most` granted words, one more is to be had, if the
  -- arena has more words than these take and can lie scattered around them
  abbrev pub PlanByLedger : Type 0
  PlanByLedger =
      (n : ℕ) (s : State) → Run library n s → (blocks most : ℕ) → length s.ledger ≤ blocks
      → ((e : Entry) → Listed s.ledger e → e.granted ≤ most)
      → (fit : Fit) (w : ℕ) → 1 ≤ w → control_words + blocks * (header_words + most) + scattered w blocks < n
      → Done (library (alloc fit w) s.words).answer

  -- granted words are even, like sizes
  abbrev pub EvenGrants : Type 0
  EvenGrants = (n : ℕ) (s : State) → Run library n s → (e : Entry) → Listed s.ledger e → e.granted % 2 ≡ 0

  -- ---- by what was asked for

  -- nothing that was done in the run had asked for more than `most` words, and no picture was read; what was refused
  -- may have been anything
  abbrev pub AsksAtMost : ℕ → {n : ℕ} {s : State} → Run library n s → Type 0
  AsksAtMost most (begun a long l) = Unit {0}
  AsksAtMost most (arrived text a long done) = ⊥
  AsksAtMost most (next {s} run event allowed) = AsksAtMost most run × (Done (answer_to library event s) → EventAsksAtMost most event)

  -- then, in a state with at most `blocks` blocks, one more of up to so many words is to be had, if the arena has more
  -- words than these take, each its need and what is too little to be split off, and can lie scattered around them
  abbrev pub Plan : Type 0
  Plan =
      (n : ℕ) (s : State) (run : Run library n s) (most blocks : ℕ) → AsksAtMost most run → length s.ledger ≤ blocks
      → control_words + blocks * (need most + (least_split - 2)) + scattered most blocks < n
      → (fit : Fit) (w : ℕ) → 1 ≤ w → w ≤ most
      → Done (library (alloc fit w) s.words).answer

  -- ---- all of that

  pub record Plans : Type 0 where
    pub plan_by_ledger : PlanByLedger
    pub even_grants : EvenGrants
    pub plan : Plan
