-- Item 8: when a request is sure to be done, whatever came before it; told by the report, and by the ledger alone. `n`
-- is the arena's number of words, `w` how many words are asked for, `scattered` the bound.
use Rattle.std.specs.Prelude.{ℕ, ◌+◌, ◌-◌, ◌*◌, ◌≤◌, ◌<◌, ◌≡◌, true, length}
use Rattle.layout.specs.Numbers.{control_words, least_size, lawful, need}
use Rattle.layout.specs.Reasons.{number}
use Rattle.layout.specs.declared.Reason.TheVariants.{NoRoom}
use Rattle.rules.specs.Answers.{free_words_in, live_blocks_in, free_chunks_in}
use Rattle.rules.specs.Causes.{LawfulRequest}
use Rattle.rules.specs.Scattered.{scattered}
use Rattle.rules.specs.Fits.{Fit}
use Rattle.rules.specs.Libraries.{Call, alloc, relocate, realloc, Library}
use Rattle.ledger.specs.Ledger.{Entry, Ledger, Done, Listed, held_words}
use Rattle.ledger.specs.Gaps.{gaps, holes}
use Rattle.ledger.specs.Runs.{State, reported, Run}

-- the words that no block of the ledger holds, nor its header
abbrev pub unheld_words : ℕ → Ledger → ℕ
unheld_words n ledger = n - control_words - held_words ledger

module _ (library : Library) where
  -- ---- how many free chunks there are

  -- "the free chunks number at most the live blocks plus one"
  abbrev pub FewFreeChunks : Type 0
  FewFreeChunks = (n : ℕ) (s : State) → Run library n s → free_chunks_in (reported library s) ≤ live_blocks_in (reported library s) + 1

  -- there are as many as gaps of the ledger that have words
  abbrev pub FreeChunksAreHoles : Type 0
  FreeChunksAreHoles = (n : ℕ) (s : State) → Run library n s → free_chunks_in (reported library s) ≡ holes (gaps n s.ledger)

  -- ---- the promise

  -- in a state this call is done for each request that more words are free for than `bound` tells, given the request
  -- and how many blocks are live
  abbrev pub DoneAbove : (bound : ℕ → ℕ → ℕ) → State → (ℕ → Call) → Type 0
  DoneAbove bound s calls =
      (w : ℕ) → 1 ≤ w → bound w (live_blocks_in (reported library s)) < free_words_in (reported library s) → Done (library (calls w) s.words).answer

  -- so in every run: an alloc under each of the three fits, and a relocate and a realloc of a block of the ledger
  pub record Promise (bound : ℕ → ℕ → ℕ) : Type 0 where
    pub alloc_sure : (n : ℕ) (s : State) → Run library n s → (fit : Fit) → DoneAbove bound s (alloc fit)
    pub relocate_sure : (n : ℕ) (s : State) → Run library n s → (e : Entry) → Listed s.ledger e → DoneAbove bound s (relocate e.block)
    pub realloc_sure : (n : ℕ) (s : State) → Run library n s → (e : Entry) → Listed s.ledger e → DoneAbove bound s (realloc e.block)

  -- "a request of 1 to N-4 words whose need, times the live blocks plus one, is at most the free words, is granted
  -- under each of the three fits"
  abbrev pub PromiseAsAsked : Type 0
  PromiseAsAsked =
      (n : ℕ) (s : State) → Run library n s → (fit : Fit) (w : ℕ) → LawfulRequest n w
      → need w * (live_blocks_in (reported library s) + 1) ≤ free_words_in (reported library s)
      → Done (library (alloc fit w) s.words).answer

  -- the promise for whoever keeps a ledger and asks for no report
  abbrev pub PromiseByLedger : Type 0
  PromiseByLedger =
      (n : ℕ) (s : State) → Run library n s → (fit : Fit) (w : ℕ) → 1 ≤ w → scattered w (length s.ledger) < unheld_words n s.ledger
      → Done (library (alloc fit w) s.words).answer

  -- a request that needs no more than the least chunk has is done wherever any word is free
  abbrev pub LeastRequests : Type 0
  LeastRequests =
      (n : ℕ) (s : State) → Run library n s → (fit : Fit) (w : ℕ) → 1 ≤ w → need w ≤ least_size → 0 < free_words_in (reported library s)
      → Done (library (alloc fit w) s.words).answer

  -- ---- it is the best of its kind

  -- a run in an arena of `n` words, with so many live blocks and so many free words, after which a request of `w` words
  -- finds no room under any fit
  pub record Refusing (n w blocks words : ℕ) : Type 0 where
    pub state : State
    pub run : Run library n state
    pub blocks_are : live_blocks_in (reported library state) ≡ blocks
    pub words_are : free_words_in (reported library state) ≡ words
    pub no_room : (fit : Fit) → (library (alloc fit w) state.words).answer.code ≡ number NoRoom

  -- there is one with just as many free words as the promise asks for more than, for every request of 3 words or more,
  -- and for any number of live blocks but 0 that the arena has room for beside these words
  abbrev pub BestOfItsKind : Type 0
  BestOfItsKind =
      (n w blocks : ℕ) → lawful n ≡ true → 3 ≤ w → 1 ≤ blocks → control_words + blocks * least_size + scattered w blocks ≤ n
      → Refusing n w blocks (scattered w blocks)

  -- ---- all of that

  pub record Promises : Type 0 where
    pub few_free_chunks : FewFreeChunks
    pub free_chunks_are_holes : FreeChunksAreHoles
    pub promise : Promise scattered
    pub promise_as_asked : PromiseAsAsked
    pub promise_by_ledger : PromiseByLedger
    pub least_requests : LeastRequests
    pub best_of_its_kind : BestOfItsKind
