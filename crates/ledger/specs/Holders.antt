-- What a holder knows from events and answers alone: the number under which a block goes on, when it ends or is cut,
-- what was stored last, and what was asked for last.
use Rattle.std.specs.Prelude.{ℕ, ◌+◌, ◌-◌, ◌≤◌, ◌≡◌, ◌≢◌, ◌⊎◌, cond, ◌&&◌, List, get_or, eqb}
use Rattle.layout.specs.Walk.{asked_in}
use Rattle.rules.specs.Answers.{Answer}
use Rattle.rules.specs.Pictures.{Said, bad, good, said}
use Rattle.rules.specs.Libraries.{read, Library}
use Rattle.ledger.specs.Events.{Event, call, store}
use Rattle.ledger.specs.Ledger.{Entry, Ledger, Effect, renews, grants, frees, regrants, spares, effect, told, if_done, Done, Listed, Held}
use Rattle.ledger.specs.Runs.{State, Allowed, answer_to, after, Run}

-- the number of block `b`, once an event is done
abbrev pub renamed : Effect → Answer → ℕ → ℕ
renamed (renews blocks) answer b = b
renamed (grants w) answer b = b
renamed (frees c) answer b = b
renamed (regrants c w) answer b = cond (eqb b c) (told answer).block b
renamed spares answer b = b

-- what a picture shows at word `i`
abbrev pub pictured_word : Said → ℕ → ℕ
pictured_word bad i = 0
pictured_word (good ws) i = get_or ws i 0

-- the word at place `i` of block `b`, where `old` was there: what an event stores to that very place, otherwise `old`
abbrev pub word_after : Event → ℕ → ℕ → ℕ → ℕ
word_after (call c) b i old = old
word_after (store c j v) b i old = cond (eqb b c && eqb i j) v old

module _ (library : Library) where
  -- the number of block `b` after an event
  abbrev pub number_after : Event → State → ℕ → ℕ
  number_after event s b = if_done (answer_to library event s) (renamed (effect event) (answer_to library event s) b) b

  -- an event ends block `b`: it is freed, or all blocks end at a start or a reading
  abbrev pub Ended : Event → State → ℕ → Type 0
  Ended event s b = Done (answer_to library event s) × ((effect event ≡ frees b) ⊎ ((blocks : Ledger) × (effect event ≡ renews blocks)))

  -- an event grants block `b` anew, where `w` words are asked for
  abbrev pub Anew : Event → State → ℕ → ℕ → Type 0
  Anew event s b w = Done (answer_to library event s) × (effect event ≡ regrants b w)

  -- an event cuts place `i` off block `b`: it is granted anew, with at most `i` words
  abbrev pub Cut : Event → State → ℕ → ℕ → Type 0
  Cut event s b i = (w : ℕ) × Anew event s b w × ((told (answer_to library event s)).granted ≤ i)

  -- in a run up to a state, `v` is what was stored last at place `i` of the block that is now number `b`: it was stored
  -- just now, or it is what a picture shows there that was read just now, whatever the state was, or it was so before
  -- an event that neither ends the block, nor cuts the place off, nor stores to the place
  pub data StoredLast (n : ℕ) : State → ℕ → ℕ → ℕ → Type 0 where
    just : {s : State} → Run library n s → (b i v : ℕ) → Allowed (store b i v) s.ledger → StoredLast n (after library (store b i v) s) b i v
    pictured : (s : State) (text : List ℕ) → Run library n (after library (call (read text)) s) → Done (answer_to library (call (read text)) s)
        → (b i : ℕ) → Held (after library (call (read text)) s).ledger b i
        → StoredLast n (after library (call (read text)) s) b i (pictured_word (said text) (b + i))
    still : {s : State} {b i v : ℕ} → StoredLast n s b i v → (event : Event) → Allowed event s.ledger
        → (Ended event s b → ⊥) → (Cut event s b i → ⊥) → ((w : ℕ) → event ≢ store b i w)
        → StoredLast n (after library event s) (number_after event s b) i v

  -- an event asks for `w` words, and is done: for a new block, or for one that it grants anew
  abbrev pub AsksFor : Event → State → ℕ → Type 0
  AsksFor event s w = (Done (answer_to library event s) × (effect event ≡ grants w)) ⊎ ((b : ℕ) × Anew event s b w)

  -- in a run up to a state, `w` is what was asked for last, of the block that is now number `b`: it was asked for just
  -- now, and `b` was answered; or a picture that was read just now, whatever the state was, shows it in the word before
  -- the block, above the mark; or it was so before an event that neither ends the block nor grants it anew
  pub data AskedLast (n : ℕ) : State → ℕ → ℕ → Type 0 where
    just_asked : {s : State} → Run library n s → (event : Event) → Allowed event s.ledger → (w : ℕ) → AsksFor event s w
        → AskedLast n (after library event s) (told (answer_to library event s)).block w
    just_pictured : (s : State) (text : List ℕ) → Run library n (after library (call (read text)) s) → Done (answer_to library (call (read text)) s)
        → (e : Entry) → Listed (after library (call (read text)) s).ledger e
        → AskedLast n (after library (call (read text)) s) e.block (asked_in (pictured_word (said text) (e.block - 1)))
    still_asked : {s : State} {b w : ℕ} → AskedLast n s b w → (event : Event) → Allowed event s.ledger
        → (Ended event s b → ⊥) → ((v : ℕ) → Anew event s b v → ⊥) → AskedLast n (after library event s) b w
