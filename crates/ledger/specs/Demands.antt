-- Demand 3, of a library: what its runs and their ledgers show. `n` is the arena's number of words, `w` how many words
-- are asked for.
use Rattle.std.specs.Prelude.{ℕ, ◌+◌, ◌-◌, ◌≤◌, ◌<◌, min, ◌≡◌, ◌≢◌, ◌↔◌, ◌⊎◌, true, List, [], ◌∷◌, ◌++◌, length, get_or, take, drop}
use Rattle.layout.specs.Numbers.{control_words, header_words, least_split, lawful, need}
use Rattle.layout.specs.Reasons.{number}
use Rattle.layout.specs.declared.Reason.{Reason}
use Rattle.layout.specs.declared.Reason.TheVariants.{Length, Damaged, NotABlock, NoRoom, WouldMove, TextRoom}
use Rattle.layout.specs.Walk.{sound}
use Rattle.rules.specs.Answers.{Answer, success, free_words_in, live_blocks_in}
use Rattle.rules.specs.Causes.{LawfulRequest}
use Rattle.rules.specs.Crumbs.{crumb, crumbs}
use Rattle.rules.specs.Pictures.{picture_length, Says}
use Rattle.rules.specs.declared.Request.{Request}
use Rattle.rules.specs.Fits.{Fit}
use Rattle.rules.specs.Libraries.{Call, start, alloc, free, resize, relocate, realloc, size, view, report, write, read, Library}
use Rattle.ledger.specs.Events.{Event, call}
use Rattle.ledger.specs.Ledger.{Entry, Ledger, told, Done, Listed, Unlisted, begins, ends, held_words}
use Rattle.ledger.specs.Gaps.{gap_from, gaps, EachShorter, holes, RoomShorter}
use Rattle.ledger.specs.Runs.{State, Allowed, reported, after, Run}
use Rattle.ledger.specs.BatchRuns.{after_batch, after_singly}
use Rattle.ledger.specs.Holders.{word_after, number_after, Ended, StoredLast, AskedLast}
use Rattle.ledger.specs.Promises.{Promises}
use Rattle.ledger.specs.Plans.{Plans}

-- `s` words, header counted, have the need of a request for `w`, and fewer over than would be split off
abbrev pub HasNeed : ℕ → ℕ → Type 0
HasNeed w s = (need w ≤ s) × (s < need w + least_split)

-- a call is refused for this reason exactly when `Short` is so, and done exactly when it is not
pub record RefusedWhen (why : Reason) (Short : Type 0) (answer : Answer) : Type 0 where
  pub refused : (answer.code ≡ number why) ↔ Short
  pub done : Done answer ↔ (Short → ⊥)

module _ (library : Library) where
  -- an arena of lawful length can be started, whatever its words are
  abbrev pub Starts : Type 0
  Starts = (a : List ℕ) → lawful (length a) ≡ true → Done (library start a).answer

  -- a text is read, whatever the words are, exactly where it is the picture of a sound arena of as many words
  abbrev pub Receives : Type 0
  Receives =
      (a text : List ℕ) → Done (library (read text) a).answer ↔ ((ws : List ℕ) × Says text ws × (length ws ≡ length a) × (sound ws ≡ true))

  -- item 5: a batch "must equal the same requests made singly, in order, also for demand 3's ledger"; it does so by any
  -- library, since what is judged here is the batch
  abbrev pub SameAsSingly : Type 0
  SameAsSingly = (records : List Request) (s : State) → after_batch library records s ≡ after_singly library records s

  -- so a run may hold batches, and what is shown of every run is so after each
  abbrev pub RunsHoldBatches : Type 0
  RunsHoldBatches = (n : ℕ) (s : State) → Run library n s → (records : List Request) → Run library n (after_batch library records s)

  -- an arena keeps its length
  abbrev pub Lengths : Type 0
  Lengths = (n : ℕ) (s : State) → Run library n s → length s.words ≡ n

  -- "Then ledger blocks never overlap": of any two, the one ends before the header of the other begins
  abbrev pub Apart : Type 0
  Apart =
      (n : ℕ) (s : State) → Run library n s
      → (below between above : Ledger) (e f : Entry) → s.ledger ≡ below ++ e ∷ (between ++ f ∷ above) → ends e ≤ begins f

  -- ledger blocks lie after the control words and below the end of the arena
  abbrev pub Inside : Type 0
  Inside = (n : ℕ) (s : State) → Run library n s → (e : Entry) → Listed s.ledger e → (control_words ≤ begins e) × (ends e ≤ n)

  -- the block of entry `e` goes on after an event: under the number that it has then, and with its words, as many as
  -- old and new length share; of these a store changes the one that it stores to
  pub record GoesOn (s : State) (event : Event) (e : Entry) : Type 0 where
    pub later : Entry
    pub listed : Listed (after library event s).ledger later
    pub number_is : later.block ≡ number_after library event s e.block
    pub words_kept : (i : ℕ) → i < min e.granted later.granted
        → get_or (after library event s).words (later.block + i) 0 ≡ word_after event e.block i (get_or s.words (e.block + i) 0)

  -- "and keep their holders' words, as many as old and new length share": each block of the ledger goes on, unless the
  -- event ends it
  abbrev pub Keeps : Type 0
  Keeps =
      (n : ℕ) (s : State) → Run library n s → (event : Event) → Allowed event s.ledger → (e : Entry) → Listed s.ledger e
      → Ended library event s e.block ⊎ GoesOn s event e

  -- over a whole run: what was stored last at a place is there
  abbrev pub Lasts : Type 0
  Lasts = (n : ℕ) (s : State) (b i v : ℕ) → StoredLast library n s b i v → get_or s.words (b + i) 0 ≡ v

  -- "The reported free words, plus each ledger block's granted words and its two header words, make the arena less its
  -- two control words."
  abbrev pub Sums : Type 0
  Sums = (n : ℕ) (s : State) → Run library n s → free_words_in (reported library s) + held_words s.ledger ≡ n - control_words

  -- "A lawful alloc is refused for want of room exactly when every gap left by ledger blocks and their headers is
  -- shorter than its need;" it is lawful where no reason before 6 applies: 4 and 5 do not by `LawfulRequest`, and in a
  -- run 1 and 2 never do, nor 3 to a block of the ledger (`Known`)
  abbrev pub RoomForAlloc : (ℕ → Call) → Type 0
  RoomForAlloc allocs =
      (n : ℕ) (s : State) → Run library n s → (w : ℕ) → LawfulRequest n w
      → RefusedWhen NoRoom (EachShorter (need w) (gaps n s.ledger)) (library (allocs w) s.words).answer

  -- "a lawful realloc of a ledger block, exactly when that block with its header, joined with the gap right above it,
  -- is too short as well."
  abbrev pub RoomForRealloc : (ℕ → ℕ → Call) → Type 0
  RoomForRealloc reallocs =
      (n : ℕ) (s : State) → Run library n s → (below above : Ledger) (e : Entry) → s.ledger ≡ below ++ e ∷ above → (w : ℕ) → LawfulRequest n w
      → RefusedWhen NoRoom (EachShorter (need w) (gaps n s.ledger) × RoomShorter (need w) n e above)
      (library (reallocs e.block w) s.words).answer

  -- item 1: a lawful resize of a ledger block is refused with WouldMove exactly when that block with its header, joined
  -- with the gap right above it, is too short
  abbrev pub RoomForResize : (ℕ → ℕ → Call) → Type 0
  RoomForResize resizes =
      (n : ℕ) (s : State) → Run library n s → (below above : Ledger) (e : Entry) → s.ledger ≡ below ++ e ∷ above → (w : ℕ) → LawfulRequest n w
      → RefusedWhen WouldMove (RoomShorter (need w) n e above) (library (resizes e.block w) s.words).answer

  -- "a move alone lacks room exactly when no gap holds the need"
  abbrev pub RoomForRelocate : (ℕ → ℕ → Call) → Type 0
  RoomForRelocate relocates =
      (n : ℕ) (s : State) → Run library n s → (e : Entry) → Listed s.ledger e → (w : ℕ) → LawfulRequest n w
      → RefusedWhen NoRoom (EachShorter (need w) (gaps n s.ledger)) (library (relocates e.block w) s.words).answer

  -- item 3: a block with a gap right above it, whose own words and header have the need of a lawful request, stays and
  -- is granted just the need: in the ledger all words over fall to the gap
  abbrev pub ShrinksToNeed : (ℕ → ℕ → Call) → Type 0
  ShrinksToNeed resizes =
      (n : ℕ) (s : State) → Run library n s → (below above : Ledger) (e : Entry) → s.ledger ≡ below ++ e ∷ above → (w : ℕ) → LawfulRequest n w
      → 0 < gap_from n (ends e) above → need w ≤ header_words + e.granted
      → (library (resizes e.block w) s.words).answer ≡ success (e.block ∷ (need w - header_words) ∷ [])

  -- item 6: after this call, done or refused, the gaps have no more crumbs than before it
  abbrev pub NoMoreCrumbs : Call → Type 0
  NoMoreCrumbs c =
      (n : ℕ) (s : State) → Run library n s → crumbs (gaps n (after library (call c) s).ledger) ≤ crumbs (gaps n s.ledger)

  -- nor after this call on a block, where it answers the number that it was given
  abbrev pub StaysWithoutCrumb : (ℕ → Call) → Type 0
  StaysWithoutCrumb calls =
      (n : ℕ) (s : State) → Run library n s → (b : ℕ) → (told (library (calls b) s.words).answer).block ≡ b
      → crumbs (gaps n (after library (call (calls b)) s).ledger) ≤ crumbs (gaps n s.ledger)

  -- and after this call on a block of the ledger at most one more: the block with its header, where that is a crumb
  abbrev pub OneCrumbMore : (ℕ → Call) → Type 0
  OneCrumbMore calls =
      (n : ℕ) (s : State) → Run library n s → (e : Entry) → Listed s.ledger e
      → crumbs (gaps n (after library (call (calls e.block)) s).ledger) ≤ crumb (header_words + e.granted) + crumbs (gaps n s.ledger)

  -- "below that the whole chunk is granted": an alloc that is done grants just its need, or takes a gap whole
  abbrev pub NeedOrGap : (ℕ → Call) → Type 0
  NeedOrGap allocs =
      (n : ℕ) (s : State) → Run library n s → (w : ℕ) → Done (library (allocs w) s.words).answer
      → (header_words + (told (library (allocs w) s.words).answer).granted ≡ need w)
      ⊎ (1 + holes (gaps n (after library (call (allocs w)) s).ledger) ≡ holes (gaps n s.ledger))

  -- and a block that is granted anew where it is has just its need, or no gap is left right above it
  abbrev pub NeedOrRoom : (ℕ → ℕ → Call) → Type 0
  NeedOrRoom resizes =
      (n : ℕ) (s : State) → Run library n s → (below above : Ledger) (e : Entry) → s.ledger ≡ below ++ e ∷ above → (w : ℕ)
      → let answer = (library (resizes e.block w) s.words).answer in
      Done answer → (told answer).block ≡ e.block
      → (header_words + (told answer).granted ≡ need w) ⊎ (gap_from n (e.block + (told answer).granted) above ≡ 0)

  -- item 9: what size answers as asked is what was asked for last
  abbrev pub SizeTellsAsked : Type 0
  SizeTellsAsked =
      (n : ℕ) (s : State) (b w : ℕ) → AskedLast library n s b w
      → (granted : ℕ) × ((library (size b) s.words).answer ≡ success (w ∷ granted ∷ []))

  -- and the ledger has it, of every block
  abbrev pub LedgerKeepsAsked : Type 0
  LedgerKeepsAsked = (n : ℕ) (s : State) → Run library n s → (e : Entry) → Listed s.ledger e → AskedLast library n s e.block e.asked

  -- a call on a block is answered 3 exactly for a number that is not in the ledger
  abbrev pub NeedsBlock : (ℕ → Call) → List ℕ → Ledger → Type 0
  NeedsBlock calls a ledger = (b : ℕ) → ((library (calls b) a).answer.code ≡ number NotABlock) ↔ Unlisted ledger b

  -- a call that is done grants the need of its request, with fewer words over than would be split off
  abbrev pub GrantsNeed : (ℕ → Call) → List ℕ → Type 0
  GrantsNeed calls a =
      (w : ℕ) → Done (library (calls w) a).answer → HasNeed w (header_words + (told (library (calls w) a).answer).granted)

  -- what the answers tell of an arena in a run: which blocks there are, how long they are, what they hold, whether they
  -- keep their numbers, and which reasons are never given
  pub record Tells (a : List ℕ) (ledger : Ledger) : Type 0 where
    pub never_length : (c : Call) → ((text : List ℕ) → c ≢ read text) → (library c a).answer.code ≢ number Length
    pub never_damaged : (c : Call) → ((text : List ℕ) → c ≢ read text) → (library c a).answer.code ≢ number Damaged
    pub alloc_grants : (fit : Fit) → GrantsNeed (alloc fit) a
    pub free_known : NeedsBlock free a ledger
    pub free_listed : (e : Entry) → Listed ledger e → Done (library (free e.block) a).answer
    pub resize_known : (w : ℕ) → NeedsBlock (λ b. resize b w) a ledger
    pub resize_grants : (b : ℕ) → GrantsNeed (resize b) a
    pub resize_stays : (b w : ℕ) → Done (library (resize b w) a).answer → (told (library (resize b w) a).answer).block ≡ b
    pub resize_never_full : (b w : ℕ) → (library (resize b w) a).answer.code ≢ number NoRoom
    pub only_resize_would_move : (c : Call) → (library c a).answer.code ≡ number WouldMove
        → (b : ℕ) × (w : ℕ) × (c ≡ resize b w) × LawfulRequest (length a) w
    pub relocate_known : (w : ℕ) → NeedsBlock (λ b. relocate b w) a ledger
    pub relocate_grants : (b : ℕ) → GrantsNeed (relocate b) a
    pub relocate_moves : (b w : ℕ) → Done (library (relocate b w) a).answer → (told (library (relocate b w) a).answer).block ≢ b
    pub realloc_known : (w : ℕ) → NeedsBlock (λ b. realloc b w) a ledger
    pub realloc_grants : (b : ℕ) → GrantsNeed (realloc b) a
    pub size_known : NeedsBlock size a ledger
    pub size_listed : (e : Entry) → Listed ledger e → (library (size e.block) a).answer ≡ success (e.asked ∷ e.granted ∷ [])
    pub view_listed : (e : Entry) → Listed ledger e → (library (view e.block) a).answer ≡ success (take e.granted (drop e.block a))
    pub view_unlisted : (b : ℕ) → Unlisted ledger b → (library (view b) a).answer ≡ success []
    pub report_done : Done (library report a).answer
    pub live_blocks_lem : live_blocks_in (library report a).answer ≡ length ledger
    pub write_room : (text : List ℕ) → RefusedWhen TextRoom (length text < picture_length (length a)) (library (write text) a).answer
    pub only_write_text_room : (c : Call) → (library c a).answer.code ≡ number TextRoom → (text : List ℕ) × (c ≡ write text)
    pub write_length : (text : List ℕ) → Done (library (write text) a).answer
        → (library (write text) a).answer ≡ success (picture_length (length a) ∷ [])

  -- the answers tell it in every run
  abbrev pub Known : Type 0
  Known = (n : ℕ) (s : State) → Run library n s → Tells s.words s.ledger

  -- demand 3, whole, with what items 1 to 9 ask of it
  pub record DemandThree : Type 0 where
    pub starts : Starts
    pub receives : Receives
    pub lengths : Lengths
    pub apart : Apart
    pub inside : Inside
    pub keeps : Keeps
    pub lasts : Lasts
    pub sums : Sums
    pub room_for_alloc : (fit : Fit) → RoomForAlloc (alloc fit)
    pub room_for_realloc : RoomForRealloc realloc
    pub room_for_resize : RoomForResize resize
    pub room_for_relocate : RoomForRelocate relocate
    pub resize_to_need : ShrinksToNeed resize
    pub realloc_to_need : ShrinksToNeed realloc
    pub crumbs_after_alloc : (fit : Fit) (w : ℕ) → NoMoreCrumbs (alloc fit w)
    pub crumbs_after_resize : (b w : ℕ) → NoMoreCrumbs (resize b w)
    pub realloc_stays_without_crumb : (w : ℕ) → StaysWithoutCrumb (λ b. realloc b w)
    pub crumbs_after_free : OneCrumbMore free
    pub crumbs_after_relocate : (w : ℕ) → OneCrumbMore (λ b. relocate b w)
    pub crumbs_after_realloc : (w : ℕ) → OneCrumbMore (λ b. realloc b w)
    pub alloc_need_or_gap : (fit : Fit) → NeedOrGap (alloc fit)
    pub resize_need_or_room : NeedOrRoom resize
    pub realloc_need_or_room : NeedOrRoom realloc
    pub same_as_singly : SameAsSingly
    pub runs_hold_batches : RunsHoldBatches
    pub size_tells_asked : SizeTellsAsked
    pub ledger_keeps_asked : LedgerKeepsAsked
    pub promises : Promises library
    pub plans : Plans library
    pub known : Known
