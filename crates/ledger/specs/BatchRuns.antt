-- A batch in a run: its requests happen one after the other, and the ledger is kept from its records alone.
use Rattle.std.specs.Prelude.{List, [], ◌∷◌}
use Rattle.rules.specs.Answers.{Answer}
use Rattle.rules.specs.Libraries.{Library}
use Rattle.rules.specs.Batches.{Wanted, a_call, unknown, wanted_in, batch_by}
use Rattle.rules.specs.declared.Request.{Request}
use Rattle.ledger.specs.Events.{call}
use Rattle.ledger.specs.Ledger.{Ledger, ledger_after}
use Rattle.ledger.specs.Runs.{State, after}

-- ---- by the records

-- the answer that a record has
abbrev pub record_answer : Request → Answer
record_answer r = record { code = r.code; values = r.block ∷ r.granted ∷ [] }

-- what a request that got this answer makes of the ledger; one of an unknown kind is no call
abbrev pub ledger_for : Wanted → Answer → Ledger → Ledger
ledger_for (a_call c) answer ledger = ledger_after (call c) answer ledger
ledger_for unknown answer ledger = ledger

-- the ledger after the records of a batch
abbrev pub ledger_from : List Request → Ledger → Ledger
ledger_from [] ledger = ledger
ledger_from (r ∷ rs) ledger = ledger_from rs (ledger_for (wanted_in r) (record_answer r) ledger)

module _ (library : Library) where
  -- the state after a batch: the words that it leaves, and the ledger that the records tell which it has filled
  abbrev pub after_batch : List Request → State → State
  after_batch rs s =
      let batch = batch_by library s.words rs in
      record { words = batch.words; ledger = ledger_from batch.records s.ledger }

  -- ---- made singly

  -- the state after one request; one of an unknown kind changes nothing
  abbrev pub after_one : Wanted → State → State
  after_one (a_call c) s = after library (call c) s
  after_one unknown s = s

  -- the state after the same requests, each made by its own call
  abbrev pub after_singly : List Request → State → State
  after_singly [] s = s
  after_singly (r ∷ rs) s = after_singly rs (after_one (wanted_in r) s)
