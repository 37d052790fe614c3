-- Runs that are there, computed: that of document 01's table, in single calls and as one batch; the three fits in one
-- run; calls alone that come to the bound of item 8's promise; document 01's move, which goes on to a cut and a free,
-- with what was stored last in the block; the same move by resize and relocate, which goes on to a move to a shorter
-- block, and to a resize; and the picture of the moved arena, which is mailed and read back.
use Prim.Native.Nat.{ℕ, ◌<◌}
use mathlib.Core.Path.{◌≡◌, refl, ap}
use mathlib.Core.Logic.{◌≢◌, inl, inr, ⊎_elim}
use mathlib.Core.List.{List, [], ◌∷◌, ◌++◌, map}
use native.Mathlib.Omega.{arith}
use lib.ListN.{set, replicate, take, drop}
use Rattle.layout.specs.Chunks.{free as free_chunk, live as live_chunk, header, write, written}
use Rattle.layout.specs.Walk.{meet, walk, walk_from, walked, sound, chunks_of}
use Rattle.layout.specs.Reasons.{number, arena_gate, request_gate}
use Rattle.layout.specs.declared.Reason.TheVariants.{NoRoom, Frame}
use Rattle.layout.proofs.Bools.{clash}
use Rattle.rules.specs.Answers.{Answer, success, refusal, block_field, granted_field}
use Rattle.rules.specs.Scattered.{scattered}
use Rattle.rules.specs.Spots.{lowest}
use Rattle.rules.specs.Rules.{joined, copied}
use Rattle.rules.specs.Pictures.{picture_of, frames_from, line, words_in, standing_from, same, said}
use Rattle.digits.specs.Digits.{upper, worth, glyph}
use Rattle.rules.specs.Calls.{start_on, alloc_by, free_on, regrant_by, size_on, report_on, write_on, read_on}
use Rattle.rules.specs.Fits.{best_fit_policy, first_fit, best_fit, next_fit}
use Rattle.rules.specs.Libraries.{Call, start, alloc, free, resize, relocate, realloc, size, view, report, write as write_picture, read}
use Rattle.rules.specs.Libraries.{ours}
use Rattle.rules.specs.Batches.{Wanted, a_call, unknown, wanted, wanted_in, batch_by}
use Rattle.rules.specs.declared.Request.{Request}
use Rattle.ledger.specs.Events.{Event, call, store}
use Rattle.ledger.specs.Ledger.{Entry, enter, strike, told}
use Rattle.ledger.specs.Gaps.{gaps}
use Rattle.ledger.specs.Runs.{State, Allowed, answer_to, after, Run, begun, arrived, next}
use Rattle.ledger.specs.BatchRuns.{ledger_from}
use Rattle.ledger.specs.Holders.{number_after, Ended, Cut, StoredLast, just, pictured, still, AskedLast, just_asked, just_pictured, still_asked}

-- ---- how a run is played

-- the state after events
abbrev after_all : List Event → State → State
after_all [] s = s
after_all (event ∷ events) s = after_all events (after ours event s)

-- each event is allowed when its turn comes
abbrev AllAllowed : List Event → State → Type 0
AllAllowed [] s = Unit {0}
AllAllowed (event ∷ events) s = Allowed event s.ledger × AllAllowed events (after ours event s)

-- a run goes on with events
abbrev play : {n : ℕ} {s : State} → Run ours n s → (events : List Event) → AllAllowed events s → Run ours n (after_all events s)
play run [] allowed = run
play {s = s} run (event ∷ events) allowed = play {s = after ours event s} (next run event allowed.0) events allowed.1

-- what a run's calls answered, the start or the reading that it begins with first
abbrev answers : {n : ℕ} {s : State} → Run ours n s → List Answer
answers (begun a long l) = (ours start a).answer ∷ []
answers (arrived text a long z) = (ours (read text) a).answer ∷ []
answers (next {s} run (call c) allowed) = answers run ++ (ours c s.words).answer ∷ []
answers (next {s} run (store b i v) allowed) = answers run

-- calls are always allowed
pub calls_allowed : (calls : List Call) (s : State) → AllAllowed (map call calls) s
calls_allowed [] s = tt
calls_allowed (c ∷ cs) s = (tt, calls_allowed cs (after ours (call c) s))

-- a block, its granted words, and those asked for
abbrev entry : ℕ → ℕ → ℕ → Entry
entry block granted asked = record { block = block; granted = granted; asked = asked }

-- ---- the table of document 01

-- a row: a call, then the code and the fields of its answer
abbrev row : Call → ℕ → List ℕ → Call × Answer
row c code values = (c, record { code = code; values = values })

-- the rows after the start in which a call is made, each beside its line and its reply
abbrev rows : List (Call × Answer)
rows =
    row (alloc first_fit 5) 0 (26 ∷ 6 ∷ [])  -- 020005: 0200001A0006
    ∷ row (alloc first_fit 1) 0 (22 ∷ 2 ∷ [])  -- 020001: 020000160002
    ∷ row (alloc first_fit 10) 0 (4 ∷ 16 ∷ [])  -- 02000A: 020000040010
    ∷ row report 0 (0 ∷ 0 ∷ 3 ∷ 0 ∷ [])  -- 05: 05000000000000030000
    ∷ row (free 22) 0 []  -- 030016: 0300
    ∷ row (free 22) 3 []  -- 030016: 0303
    ∷ row (alloc first_fit 4) 6 (0 ∷ 0 ∷ [])  -- 020004: 020600000000
    ∷ row (realloc 10 13) 3 (0 ∷ 0 ∷ [])  -- 04000A000D: 040300000000
    ∷ row report 0 (4 ∷ 2 ∷ 2 ∷ 1 ∷ [])  -- 05: 05000004000200020001
    ∷ row (alloc first_fit 1) 0 (22 ∷ 2 ∷ [])  -- 020001: 020000160002
    ∷ row (realloc 26 7) 6 (0 ∷ 0 ∷ [])  -- 04001A0007: 040600000000
    ∷ row (free 10) 3 []  -- 03000A: 0303
    ∷ row (alloc first_fit 11) 6 (0 ∷ 0 ∷ [])  -- 02000B: 020600000000
    ∷ row (alloc first_fit 29) 5 (0 ∷ 0 ∷ [])  -- 02001D: 020500000000
    ∷ row (alloc first_fit 0) 4 (0 ∷ 0 ∷ [])  -- 020000: 020400000000
    ∷ []

abbrev row_calls : List Call
row_calls = map (λ (r : Call × Answer). r.0) rows

abbrev row_answers : List Answer
row_answers = map (λ (r : Call × Answer). r.1) rows

-- an arena of 32 words, all zero, is started
abbrev fresh : State
fresh = record { words = (ours start (replicate 32 0)).words; ledger = [] }

abbrev fresh_run : Run ours 32 fresh
fresh_run = begun (replicate 32 0) refl refl

abbrev table : Run ours 32 (after_all (map call row_calls) fresh)
table = play fresh_run (map call row_calls) (calls_allowed row_calls fresh)

-- 010020: 0100, and then what the rows say
pub table_answers : answers table ≡ success [] ∷ row_answers
unfolding start_on alloc_by free_on regrant_by report_on arena_gate request_gate sound chunks_of walked walk_from walk meet lowest joined copied written write
    header
table_answers = refl

-- three blocks are held at the end
pub table_ledger : (after_all (map call row_calls) fresh).ledger ≡ entry 4 16 10 ∷ entry 22 2 1 ∷ entry 26 6 5 ∷ []
unfolding start_on alloc_by free_on regrant_by report_on arena_gate request_gate sound chunks_of walked walk_from walk meet lowest joined copied written write
    header enter strike
table_ledger = refl

-- ---- the three fits in one run

-- of one free chunk all three take the last words, wherever the rover is; then a block is freed below another, and best
-- fit takes its place again, where first fit would take the lowest chunk
abbrev fitted : List Event
fitted = call (alloc best_fit 2) ∷ call (alloc (next_fit 31) 2) ∷ call (alloc first_fit 2) ∷ call (free 26) ∷ call (alloc best_fit 1) ∷ []

pub fits_answers :
    answers (play fresh_run fitted (tt, (tt, (tt, (tt, (tt, tt))))))
    ≡ success [] ∷ success (30 ∷ 2 ∷ []) ∷ success (26 ∷ 2 ∷ []) ∷ success (22 ∷ 2 ∷ []) ∷ success [] ∷ success (26 ∷ 2 ∷ []) ∷ []
unfolding start_on alloc_by free_on arena_gate request_gate sound chunks_of walked walk_from walk meet lowest best_fit_policy joined written write header enter
    strike
fits_answers = refl

pub fits_ledger : (after_all fitted fresh).ledger ≡ entry 22 2 2 ∷ entry 26 2 1 ∷ entry 30 2 2 ∷ []
unfolding start_on alloc_by free_on arena_gate request_gate sound chunks_of walked walk_from walk meet lowest best_fit_policy joined written write header enter
    strike
fits_ledger = refl

-- ---- the bound of item 8's promise

-- calls alone come to an arena of 18 words in which block 8 has a free chunk of 4 words on each side
abbrev combed : List Call
combed = alloc first_fit 14 ∷ resize 4 2 ∷ alloc first_fit 2 ∷ alloc first_fit 2 ∷ free 4 ∷ free 16 ∷ report ∷ []

-- 3 words have a need of 6: under no fit is there room for them
abbrev beyond : List Call
beyond = alloc first_fit 3 ∷ alloc best_fit 3 ∷ alloc (next_fit 9) 3 ∷ []

abbrev small : State
small = record { words = (ours start (replicate 18 0)).words; ledger = [] }

pub combed_answers :
    answers (play (begun (replicate 18 0) refl refl) (map call (combed ++ beyond)) (calls_allowed (combed ++ beyond) small))
    ≡ success []
    ∷ success (4 ∷ 14 ∷ []) ∷ success (4 ∷ 2 ∷ []) ∷ success (16 ∷ 2 ∷ []) ∷ success (8 ∷ 6 ∷ []) ∷ success [] ∷ success []
    ∷ success (scattered 3 1 ∷ 2 ∷ 1 ∷ 2 ∷ [])
    ∷ refusal 2 NoRoom ∷ refusal 2 NoRoom ∷ refusal 2 NoRoom ∷ []
unfolding start_on alloc_by free_on regrant_by report_on arena_gate request_gate sound chunks_of walked walk_from walk meet lowest best_fit_policy joined written write
    header enter strike
combed_answers = refl

-- a record that asks this, with an old answer in it
abbrev unanswered : ℕ → ℕ → ℕ → Request
unanswered kind b n = record { kind = kind; b = b; n = n; code = 99; block = 99; granted = 99 }

-- a call as a record of a batch, and an unknown kind for a call that no record asks for
abbrev record_for : Call → Request
record_for (alloc first_fit w) = unanswered 1 0 w
record_for (alloc best_fit w) = unanswered 0 0 0
record_for (alloc (next_fit rover) w) = unanswered 0 0 0
record_for (free b) = unanswered 2 b 0
record_for (realloc b w) = unanswered 3 b w
record_for (resize b w) = unanswered 4 b w
record_for (relocate b w) = unanswered 5 b w
record_for (size b) = unanswered 6 b 0
record_for start = unanswered 0 0 0
record_for (view b) = unanswered 0 0 0
record_for report = unanswered 0 0 0
record_for (write_picture text) = unanswered 0 0 0
record_for (read text) = unanswered 0 0 0

-- the answer in a record: code, block, granted words
abbrev answered_in : Request → List ℕ
answered_in r = r.code ∷ r.block ∷ r.granted ∷ []

-- an answer as the record of such a request has it
abbrev answered_as : Wanted → Answer → List ℕ
answered_as (a_call c) answer = answer.code ∷ block_field answer.values ∷ granted_field answer.values ∷ []
answered_as unknown answer = number Frame ∷ 0 ∷ 0 ∷ []

-- the rows as one batch: each record has its row's answer, but that a report, which no record asks for, gets 7
pub table_records : map answered_in (batch_by ours fresh.words (map record_for row_calls)).records ≡ map
    (λ (r : Call × Answer). answered_as (wanted_in (record_for r.0)) r.1) rows
unfolding start_on alloc_by free_on regrant_by report_on arena_gate request_gate sound chunks_of walked walk_from walk meet lowest joined copied written write
    header wanted batch_by
table_records = refl

-- and the ledger that the records tell is that of the rows
pub records_ledger : ledger_from (batch_by ours fresh.words (map record_for row_calls)).records [] ≡ (after_all (map call row_calls) fresh).ledger
unfolding start_on alloc_by free_on regrant_by report_on arena_gate request_gate sound chunks_of walked walk_from walk meet lowest joined copied written write
    header enter strike wanted batch_by
records_ledger = refl

-- what the first five rows after the start leave: blocks 4 and 26, and the gaps below, between and above them
pub fifth_ledger : (after_all (map call (take 5 row_calls)) fresh).ledger ≡ entry 4 16 10 ∷ entry 26 6 5 ∷ []
unfolding start_on alloc_by free_on regrant_by report_on arena_gate request_gate sound chunks_of walked walk_from walk meet lowest joined copied written write
    header enter strike
fifth_ledger = refl

pub fifth_gaps : gaps 32 (after_all (map call (take 5 row_calls)) fresh).ledger ≡ 0 ∷ 4 ∷ 0 ∷ []
fifth_gaps = ap (gaps 32) fifth_ledger

-- ---- what was stored last, over the events of the runs below

-- it stays so where another place of the block is stored to
stored_elsewhere : {s : State} {b i v : ℕ} → StoredLast ours 32 s b i v → (j w : ℕ) → Allowed (store b j w) s.ledger → i ≢ j
    → StoredLast ours 32 (after ours (store b j w) s) b i v
stored_elsewhere {b} last j w allowed other =
    still last (store b j w) allowed
    (λ ended. ⊎_elim (λ is. clash cc) (λ is. clash cc) ended.1) (λ cut. let is = cut.1.1 in clash cc) (λ v is. other cc)

-- and where the block is regranted with the place
regranted : {s : State} {b i v : ℕ} → StoredLast ours 32 s b i v → (w : ℕ) → i < (told (answer_to ours (call (realloc b w)) s)).granted
    → StoredLast ours 32 (after ours (call (realloc b w)) s) (number_after ours (call (realloc b w)) s b) i v
regranted {b} last w kept =
    still last (call (realloc b w)) tt
    (λ ended. ⊎_elim (λ is. clash cc) (λ is. clash cc) ended.1) (λ cut. omega (arith, kept, cut.2)) (λ v is. clash cc)

-- ---- the move of document 01, where the holder stores two words first

-- blocks 30 and 26 are granted
abbrev held_state : State
held_state =
    record {
      words =
          32 ∷ 2 ∷ 22 ∷ 0 ∷ 0 ∷ 0 ∷ 0 ∷ 0
          ∷ 0 ∷ 0 ∷ 0 ∷ 0 ∷ 0 ∷ 0 ∷ 0 ∷ 0
          ∷ 0 ∷ 0 ∷ 0 ∷ 0 ∷ 0 ∷ 0 ∷ 0 ∷ 0
          ∷ 4 ∷ 2147483650 ∷ 0 ∷ 0 ∷ 4 ∷ 2147483650 ∷ 0 ∷ 0
          ∷ [];
      ledger = entry 26 2 2 ∷ entry 30 2 2 ∷ [];
    }

unfoldable pub held : Run ours 32 held_state
unfolding start_on alloc_by arena_gate request_gate sound chunks_of walked walk_from walk meet lowest written write header enter
held = play fresh_run (call (alloc first_fit 2) ∷ call (alloc first_fit 2) ∷ []) (tt, (tt, tt))

-- block 26 holds a 5 and a 7
abbrev stored_state : State
stored_state =
    record {
      words =
          32 ∷ 2 ∷ 22 ∷ 0 ∷ 0 ∷ 0 ∷ 0 ∷ 0
          ∷ 0 ∷ 0 ∷ 0 ∷ 0 ∷ 0 ∷ 0 ∷ 0 ∷ 0
          ∷ 0 ∷ 0 ∷ 0 ∷ 0 ∷ 0 ∷ 0 ∷ 0 ∷ 0
          ∷ 4 ∷ 2147483650 ∷ 5 ∷ 7 ∷ 4 ∷ 2147483650 ∷ 0 ∷ 0
          ∷ [];
      ledger = entry 26 2 2 ∷ entry 30 2 2 ∷ [];
    }

abbrev five_allowed : Allowed (store 26 0 5) held_state.ledger
five_allowed = ((entry 26 2 2, inl refl, refl, omega arith), omega arith)

abbrev seven_allowed : Allowed (store 26 1 7) held_state.ledger
seven_allowed = ((entry 26 2 2, inl refl, refl, omega arith), omega arith)

unfoldable pub stored : Run ours 32 stored_state
stored = play held (store 26 0 5 ∷ store 26 1 7 ∷ []) (five_allowed, (seven_allowed, tt))

-- words 18 and 19 are those of 26 and 27
abbrev moved_state : State
moved_state =
    record {
      words =
          32 ∷ 2 ∷ 14 ∷ 24 ∷ 0 ∷ 0 ∷ 0 ∷ 0
          ∷ 0 ∷ 0 ∷ 0 ∷ 0 ∷ 0 ∷ 0 ∷ 0 ∷ 0
          ∷ 8 ∷ 2147483654 ∷ 5 ∷ 7 ∷ 0 ∷ 0 ∷ 0 ∷ 0
          ∷ 4 ∷ 0 ∷ 5 ∷ 7 ∷ 4 ∷ 2147483650 ∷ 0 ∷ 0
          ∷ [];
      ledger = entry 18 6 6 ∷ entry 30 2 2 ∷ [];
    }

unfoldable pub moved : Run ours 32 moved_state
unfolding regrant_by arena_gate request_gate sound chunks_of walked walk_from walk meet lowest joined copied written write header enter strike
moved = play stored (call (realloc 26 6) ∷ []) (tt, tt)

-- alloc 2 gives 30, alloc 2 gives 26, realloc 26 to 6 gives block 18 with 6 granted
pub move_answers : answers moved ≡ success [] ∷ success (30 ∷ 2 ∷ []) ∷ success (26 ∷ 2 ∷ []) ∷ success (18 ∷ 6 ∷ []) ∷ []
unfolding start_on alloc_by regrant_by arena_gate request_gate sound chunks_of walked walk_from walk meet lowest written write header held stored moved
move_answers = refl

pub move_words : take 2 (drop 18 moved_state.words) ≡ take 2 (drop 26 stored_state.words)
move_words = refl

-- free chunks are 2 (size 14) and 24 (size 4)
pub move_chunks : chunks_of moved_state.words ≡ free_chunk 14 ∷ live_chunk 8 6 ∷ free_chunk 4 ∷ live_chunk 4 2 ∷ []
unfolding chunks_of walked walk_from walk meet
move_chunks = refl

-- what was stored last in block 26 is so in block 18
pub five_moved : StoredLast ours 32 moved_state 18 0 5
unfolding regrant_by arena_gate request_gate sound chunks_of walked walk_from walk meet lowest joined copied written write header enter strike
five_moved = regranted (stored_elsewhere (just held 26 0 5 five_allowed) 1 7 seven_allowed clash) 6 (omega arith)

pub seven_moved : StoredLast ours 32 moved_state 18 1 7
unfolding regrant_by arena_gate request_gate sound chunks_of walked walk_from walk meet lowest joined copied written write header enter strike
seven_moved = regranted (just (next held (store 26 0 5) five_allowed) 26 1 7 seven_allowed) 6 (omega arith)

-- ---- then the last word of the block is stored, the block is cut, and at last freed

abbrev filled_state : State
filled_state = record { words = set moved_state.words 23 9; ledger = moved_state.ledger }

abbrev nine_allowed : Allowed (store 18 5 9) moved_state.ledger
nine_allowed = ((entry 18 6 6, inl refl, refl, omega arith), omega arith)

unfoldable pub filled : Run ours 32 filled_state
filled = play moved (store 18 5 9 ∷ []) (nine_allowed, tt)

-- the words over go to the free chunk above it, whose start moves down
abbrev cut_state : State
cut_state =
    record {
      words =
          32 ∷ 2 ∷ 14 ∷ 20 ∷ 0 ∷ 0 ∷ 0 ∷ 0
          ∷ 0 ∷ 0 ∷ 0 ∷ 0 ∷ 0 ∷ 0 ∷ 0 ∷ 0
          ∷ 4 ∷ 2147483649 ∷ 5 ∷ 7 ∷ 8 ∷ 0 ∷ 0 ∷ 9
          ∷ 4 ∷ 0 ∷ 5 ∷ 7 ∷ 4 ∷ 2147483650 ∷ 0 ∷ 0
          ∷ [];
      ledger = entry 18 2 1 ∷ entry 30 2 2 ∷ [];
    }

unfoldable pub cut : Run ours 32 cut_state
unfolding regrant_by arena_gate request_gate sound chunks_of walked walk_from walk meet lowest joined written write header enter strike
cut = play filled (call (realloc 18 1) ∷ []) (tt, tt)

-- the block is merged with both its neighbours, and the headers that are swallowed stay
abbrev freed_state : State
freed_state =
    record {
      words =
          32 ∷ 2 ∷ 26 ∷ 0 ∷ 0 ∷ 0 ∷ 0 ∷ 0
          ∷ 0 ∷ 0 ∷ 0 ∷ 0 ∷ 0 ∷ 0 ∷ 0 ∷ 0
          ∷ 4 ∷ 2147483649 ∷ 5 ∷ 7 ∷ 8 ∷ 0 ∷ 0 ∷ 9
          ∷ 4 ∷ 0 ∷ 5 ∷ 7 ∷ 4 ∷ 2147483650 ∷ 0 ∷ 0
          ∷ [];
      ledger = entry 30 2 2 ∷ [];
    }

unfoldable pub freed : Run ours 32 freed_state
unfolding free_on arena_gate sound chunks_of walked walk_from walk meet lowest joined written write header strike
freed = play cut (call (free 18) ∷ []) (tt, tt)

-- the cut block has 2 words, and the free is done
pub freed_answers : answers freed ≡ answers moved ++ success (18 ∷ 2 ∷ []) ∷ success [] ∷ []
unfolding start_on alloc_by free_on regrant_by arena_gate request_gate sound chunks_of walked walk_from walk meet lowest written write header held stored
    moved filled cut freed
freed_answers = refl

-- the words below the cut are still what was stored last
pub five_left : StoredLast ours 32 cut_state 18 0 5
unfolding regrant_by arena_gate request_gate sound chunks_of walked walk_from walk meet lowest joined written write header enter strike
five_left = regranted (stored_elsewhere five_moved 5 9 nine_allowed (λ is. omega arith)) 1 (omega arith)

pub seven_left : StoredLast ours 32 cut_state 18 1 7
unfolding regrant_by arena_gate request_gate sound chunks_of walked walk_from walk meet lowest joined written write header enter strike
seven_left = regranted (stored_elsewhere seven_moved 5 9 nine_allowed (λ is. omega arith)) 1 (omega arith)

-- the 9 is stored last at place 5 until the block is cut below it
pub nine_stored : StoredLast ours 32 filled_state 18 5 9
nine_stored = just moved 18 5 9 nine_allowed

pub nine_cut : Cut ours (call (realloc 18 1)) filled_state 18 5
unfolding regrant_by arena_gate request_gate sound chunks_of walked walk_from walk meet lowest
nine_cut = (1, (refl, refl), omega arith)

-- and the block ends when it is freed
pub block_ended : Ended ours (call (free 18)) cut_state 18
unfolding free_on arena_gate sound chunks_of walked walk_from walk meet lowest
block_ended = (refl, inl refl)

-- ---- the same move as resize and relocate, a move to a shorter block, and a resize that is done

-- the resize of block 26 is refused, and the move makes of it what the realloc made of it
unfoldable pub halves : Run ours 32 moved_state
unfolding regrant_by arena_gate request_gate sound chunks_of walked walk_from walk meet lowest joined copied written write header enter strike
halves = play stored (call (resize 26 6) ∷ call (relocate 26 6) ∷ []) (tt, (tt, tt))

-- block 18, which has 6 words, moves to block 14, which has 2; the chunk that is freed merges with the free one above
-- it
abbrev shorter_state : State
shorter_state =
    record {
      words =
          32 ∷ 2 ∷ 10 ∷ 16 ∷ 0 ∷ 0 ∷ 0 ∷ 0
          ∷ 0 ∷ 0 ∷ 0 ∷ 0 ∷ 4 ∷ 2147483649 ∷ 5 ∷ 7
          ∷ 12 ∷ 0 ∷ 5 ∷ 7 ∷ 0 ∷ 0 ∷ 0 ∷ 0
          ∷ 4 ∷ 0 ∷ 5 ∷ 7 ∷ 4 ∷ 2147483650 ∷ 0 ∷ 0
          ∷ [];
      ledger = entry 14 2 1 ∷ entry 30 2 2 ∷ [];
    }

unfoldable pub shortened : Run ours 32 shorter_state
unfolding regrant_by arena_gate request_gate sound chunks_of walked walk_from walk meet lowest joined copied written write header enter strike
shortened = play halves (call (relocate 18 1) ∷ []) (tt, tt)

-- then it grows where it stands, into the free chunk above it
abbrev grown_state : State
grown_state =
    record {
      words =
          32 ∷ 2 ∷ 10 ∷ 18 ∷ 0 ∷ 0 ∷ 0 ∷ 0
          ∷ 0 ∷ 0 ∷ 0 ∷ 0 ∷ 6 ∷ 2147483651 ∷ 5 ∷ 7
          ∷ 12 ∷ 0 ∷ 10 ∷ 0 ∷ 0 ∷ 0 ∷ 0 ∷ 0
          ∷ 4 ∷ 0 ∷ 5 ∷ 7 ∷ 4 ∷ 2147483650 ∷ 0 ∷ 0
          ∷ [];
      ledger = entry 14 4 3 ∷ entry 30 2 2 ∷ [];
    }

unfoldable pub grown : Run ours 32 grown_state
unfolding regrant_by arena_gate request_gate sound chunks_of walked walk_from walk meet lowest joined written write header enter strike
grown = play shortened (call (resize 14 3) ∷ []) (tt, tt)

-- the first resize is refused with 8, both moves are done, and the last resize keeps the block's number
pub halves_answers : answers grown ≡ answers stored ++ record { code = 8; values = 0 ∷ 0 ∷ [] } ∷ success (18 ∷ 6 ∷ []) ∷ success
    (14 ∷ 2 ∷ []) ∷ success (14 ∷ 4 ∷ []) ∷ []
unfolding start_on alloc_by regrant_by arena_gate request_gate sound chunks_of walked walk_from walk meet lowest written write header held stored halves
    shortened grown
halves_answers = refl

-- ---- what was asked for last, and what size answers

-- block 18 of the move was asked for with 6 words
pub six_asked : AskedLast ours 32 moved_state 18 6
unfolding regrant_by arena_gate request_gate sound chunks_of walked walk_from walk meet lowest joined copied written write header enter strike
six_asked = just_asked stored (call (realloc 26 6)) tt 6 (inr (26, (refl, refl)))

-- and block 30 with 2, before all else
pub two_asked : AskedLast ours 32 moved_state 30 2
unfolding start_on alloc_by regrant_by arena_gate request_gate sound chunks_of walked walk_from walk meet lowest joined copied written write header enter
    strike
two_asked =
    let first : AskedLast ours 32 _ 30 2 = just_asked fresh_run (call (alloc first_fit 2)) tt 2 (inl (refl, refl)) in
    let second = still_asked first (call (alloc first_fit 2)) tt (λ ended. ⊎_elim (λ is. clash cc) (λ is. clash cc) ended.1) (λ v anew. clash cc) in
    let five = still_asked second (store 26 0 5) five_allowed (λ ended. ⊎_elim (λ is. clash cc) (λ is. clash cc) ended.1) (λ v anew. clash cc) in
    let seven = still_asked five (store 26 1 7) seven_allowed (λ ended. ⊎_elim (λ is. clash cc) (λ is. clash cc) ended.1) (λ v anew. clash cc) in
    still_asked seven (call (realloc 26 6)) tt (λ ended. ⊎_elim (λ is. clash cc) (λ is. clash cc) ended.1) (λ v anew. clash cc)

-- the resize asked for 3
pub three_asked : AskedLast ours 32 grown_state 14 3
unfolding regrant_by arena_gate request_gate sound chunks_of walked walk_from walk meet lowest joined written write header enter strike
three_asked = just_asked shortened (call (resize 14 3)) tt 3 (inr (14, (refl, refl)))

-- block 14 has 4 words, of which 3 were asked for; both words of block 30 were
pub sizes_answered : ((ours (size 14) grown_state.words).answer ≡ success (3 ∷ 4 ∷ [])) × ((ours (size 30) grown_state.words).answer ≡ success (2 ∷ 2 ∷ []))
unfolding size_on arena_gate sound chunks_of walked walk_from walk meet lowest
sizes_answered = (refl, refl)

-- ---- the picture of the arena after the move: it is written, mailed, and read back

abbrev picture : List ℕ
picture = picture_of moved_state.words

-- its 291 bytes are written, and nothing changes
unfoldable pub drawn : Run ours 32 moved_state
unfolding write_on picture_of frames_from line glyph arena_gate sound chunks_of walked walk_from walk meet
drawn = play moved (call (write_picture (replicate 291 0)) ∷ []) (tt, tt)

-- it arrives in words that were all zero: they are the arena, and the ledger has its blocks
unfoldable pub mailed : Run ours 32 moved_state
unfolding read_on said picture_of frames_from line words_in standing_from same upper worth glyph arena_gate sound chunks_of walked walk_from walk meet
mailed = arrived picture (replicate 32 0) refl refl

pub mailed_gaps : gaps 32 moved_state.ledger ≡ 14 ∷ 4 ∷ 0 ∷ []
mailed_gaps = refl

-- whoever reads it knows what block 18 holds
pub seven_mailed : StoredLast ours 32 moved_state 18 1 7
unfolding read_on said picture_of frames_from line words_in standing_from same upper worth glyph arena_gate sound chunks_of walked walk_from walk meet
seven_mailed = pictured (record { words = replicate 32 0; ledger = [] }) picture mailed refl 18 1 (entry 18 6 6, inl refl, refl, omega arith)

-- and that 6 words were asked for
pub six_mailed : AskedLast ours 32 moved_state 18 6
unfolding read_on said picture_of frames_from line words_in standing_from same upper worth glyph arena_gate sound chunks_of walked walk_from walk meet
six_mailed = just_pictured (record { words = replicate 32 0; ledger = [] }) picture mailed refl (entry 18 6 6) (inl refl)

-- without its last byte it is not read and changes nothing; then block 18 is freed
abbrev released_state : State
released_state = record { words = set (set moved_state.words 2 26) 3 0; ledger = entry 30 2 2 ∷ [] }

unfoldable pub released : Run ours 32 released_state
unfolding read_on said picture_of frames_from line words_in standing_from same upper worth glyph free_on arena_gate sound chunks_of walked walk_from walk meet
    lowest joined written write header strike
released = play mailed (call (read (take 290 picture)) ∷ call (free 18) ∷ []) (tt, (tt, tt))

-- read back where a 9 was stored since, it ends that block 18, and the block 18 of the picture holds a 0 there
unfoldable pub restored : Run ours 32 moved_state
unfolding read_on said picture_of frames_from line words_in standing_from same upper worth glyph arena_gate sound chunks_of walked walk_from walk meet
restored = play filled (call (read picture) ∷ []) (tt, tt)

pub nine_ended : Ended ours (call (read picture)) filled_state 18
unfolding read_on said picture_of frames_from line words_in standing_from same upper worth glyph arena_gate sound chunks_of walked walk_from walk meet
nine_ended = (refl, inr (_, refl))

pub zero_restored : StoredLast ours 32 moved_state 18 5 0
unfolding read_on said picture_of frames_from line words_in standing_from same upper worth glyph arena_gate sound chunks_of walked walk_from walk meet
zero_restored = pictured filled_state picture restored refl 18 5 (entry 18 6 6, inl refl, refl, omega arith)

-- the picture's length; and of the run that it begins, the two readings and the free
pub picture_answers : (answers drawn ≡ answers moved ++ success (291 ∷ []) ∷ [])
    × (answers released ≡ success [] ∷ record { code = 7; values = [] } ∷ success [] ∷ [])
unfolding start_on alloc_by free_on regrant_by write_on read_on said picture_of frames_from line words_in standing_from same upper worth glyph arena_gate
    request_gate sound chunks_of walked walk_from walk meet lowest written write header held stored moved drawn mailed released
picture_answers = (refl, refl)
