-- Runs: an arena that is started, or read from a picture, and then any number of events.
use Rattle.std.specs.Prelude.{ℕ, ◌<◌, ◌≡◌, true, List, [], length}
use Rattle.layout.specs.Numbers.{word_values, lawful}
use Rattle.rules.specs.Answers.{Answer}
use Rattle.rules.specs.Libraries.{start, report, read, Library}
use Rattle.ledger.specs.Events.{Event, call, store, happens}
use Rattle.ledger.specs.Ledger.{Ledger, ledger_after, Done, Held}

pub record State : Type 0 where
  pub words : List ℕ
  pub ledger : Ledger

-- every call is allowed, also one that will be refused; a holder stores only to one of the granted words of a block
-- that the ledger has, and only a value that fits a word
abbrev pub Allowed : Event → Ledger → Type 0
Allowed (call c) ledger = Unit {0}
Allowed (store b i v) ledger = Held ledger b i × (v < word_values)

module _ (library : Library) where
  -- what the report answers in a state
  abbrev pub reported : State → Answer
  reported s = (library report s.words).answer

  abbrev pub answer_to : Event → State → Answer
  answer_to event s = (happens library event s.words).answer

  abbrev pub after : Event → State → State
  after event s = record { words = (happens library event s.words).words; ledger = ledger_after event (answer_to event s) s.ledger }

  -- a run in an arena of `n` words, up to a state: it begins with any words, started, or with a reading that is done,
  -- whatever the words were
  pub data Run (n : ℕ) : State → Type 0 where
    begun : (a : List ℕ) → length a ≡ n → lawful n ≡ true → Run n (record { words = (library start a).words; ledger = [] })
    arrived : (text a : List ℕ) → length a ≡ n → Done (library (read text) a).answer
        → Run n (after (call (read text)) (record { words = a; ledger = [] }))
    next : {s : State} → Run n s → (event : Event) → Allowed event s.ledger → Run n (after event s)
