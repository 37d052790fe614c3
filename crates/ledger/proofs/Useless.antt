-- Document 01's four useless versions, and others of their kind, as libraries: each with the demands that it fails.
use Prim.Native.Nat.{ℕ, ◌+◌, ◌-◌, ◌≤◌}
use mathlib.Core.Path.{◌≡◌, refl, ◌∙◌, ap}
use mathlib.Core.Logic.{◌≢◌, inl, inr, ⊎_elim}
use mathlib.Core.Bool.{Bool, true, false, cond}
use mathlib.Core.List.{List, [], ◌∷◌}
use native.Mathlib.Nat.{add-zero}
use native.Mathlib.Omega.{arith}
use lib.Dec.{eqb, ltb}
use lib.ListN.{length, get_or, set, replicate, length-replicate}
use borrow.Author.Tests.{le-leb, eq-eqb, ltb-true, ltb-false}
use Rattle.layout.specs.Numbers.{control_words, header_words, lawful, greatest_request, need}
use Rattle.layout.specs.Chunks.{header, write, written}
use Rattle.layout.specs.Walk.{meet, walk, walk_from, walked, sound, chunks_of}
use Rattle.layout.specs.Reasons.{arena_gate, request_gate}
use Rattle.layout.proofs.Bools.{clash}
use Rattle.rules.specs.Answers.{Answer, Outcome, success, granted_field, free_words_in, live_blocks_in, free_chunks_in}
use Rattle.rules.specs.Pictures.{picture_of, picture_length, Says}
use Rattle.rules.specs.Spots.{lowest}
use Rattle.rules.specs.Rules.{joined, copied}
use Rattle.rules.specs.Causes.{LawfulRequest}
use Rattle.rules.specs.Crumbs.{crumb}
use Rattle.rules.specs.Calls.{start_on, alloc_by, free_on, regrant_by, size_on, report_on}
use Rattle.rules.specs.Fits.{Fit, first_fit}
use Rattle.rules.specs.Libraries.{Call, start, alloc, free, resize, relocate, realloc, size, view, report, write as write_picture, read}
use Rattle.rules.specs.Libraries.{Library, ours}
use Rattle.rules.proofs.Crumbs.{a_crumb}
use Rattle.rules.proofs.Pictures.{picture_length_lem}
use Rattle.rules.proofs.Saying.{said_says, picture_says}
use Rattle.ledger.specs.Events.{call, store}
use Rattle.ledger.specs.Gaps.{hole, RoomShorter}
use Rattle.ledger.specs.Ledger.{Entry, enter, strike, told, entry_for, Done, Held, begins, ends}
use Rattle.ledger.specs.Runs.{State, Allowed, after, Run, begun, arrived, next}
use Rattle.ledger.specs.Holders.{just, pictured, still, just_asked}
use Rattle.ledger.specs.Demands.{Starts, Receives, Lengths, Apart, Inside, Keeps, Lasts, Sums, RoomForAlloc, RoomForResize, RoomForRelocate}
use Rattle.ledger.specs.Demands.{RoomForRealloc, ShrinksToNeed, NoMoreCrumbs, NeedOrGap, NeedOrRoom, SizeTellsAsked, Known}
use Rattle.ledger.specs.Promises.{FreeChunksAreHoles, PromiseByLedger}
use Rattle.ledger.proofs.Gaps.{a_hole}

-- ---- what the room rule asks of a new arena, whichever fit it is about: its first alloc is done

module _ (fit : Fit) where
  -- arena `a` is started, and `w` words are asked for
  record Once (library : Library) (a : List ℕ) (w : ℕ) : Type 0 where
    started : Run library (length a) (record { words = (library start a).words; ledger = [] })
    done : Done (library (alloc fit w) (library start a).words).answer
    once :
        Run library (length a)
        (record {
          words = (library (alloc fit w) (library start a).words).words;
          ledger = entry_for w
              (library (alloc fit w) (library start a).words).answer ∷ [];
        })

  has_once : (library : Library) → RoomForAlloc library (alloc fit) → (a : List ℕ) (w : ℕ) → lawful (length a) ≡ true
      → (1 ≤ w) × (need w ≤ length a - control_words) → Once library a w
  unfolding enter
  has_once library room a w l fits =
      let started : Run library (length a) _ = begun a refl l in
      let done : Done (library (alloc fit w) (library start a).words).answer =
      (room (length a) _ started w (omega arith)).done.1 (λ short. omega arith) in
      record { started = started; done = done; once = rw done at (next started (call (alloc fit w)) tt) }

  -- a new arena of 6 words has room for 2
  in_six : (library : Library) → RoomForAlloc library (alloc fit) → Once library (replicate 6 0) 2
  in_six library room = has_once library room (replicate 6 0) 2 refl (omega arith)

  -- and a new arena of 32 words
  in_thirty_two : (library : Library) → RoomForAlloc library (alloc fit) → Once library (replicate 32 0) 2
  in_thirty_two library room = has_once library room (replicate 32 0) 2 refl (omega arith)

  -- if the library grants enough, the block in the 6 words has room for the words that it has
  own_room : (library : Library) → RoomForAlloc library (alloc fit) → Known library
      → RoomShorter (need 2) 6 (entry_for 2 (library (alloc fit 2) (library start (replicate 6 0)).words).answer) [] → ⊥
  own_room library room known short = let o = in_six library room in omega (arith, short, (known 6 _ o.started).alloc_grants fit 2 o.done)

-- ---- one that refuses everything

-- no call is ever done, for whatever reasons and whatever it writes
abbrev pub RefusesEverything : Library → Type 0
RefusesEverything library = (c : Call) (a : List ℕ) → Done (library c a).answer → ⊥

module _ (fit : Fit) where
  -- it fails the room rule: a new arena of 6 words has room for 2
  pub refuses_everything : (library : Library) → RefusesEverything library → RoomForAlloc library (alloc fit) → ⊥
  refuses_everything library refuses room = refuses (alloc fit 2) _ (in_six fit library room).done

-- already its start fails
pub refuses_start : (library : Library) → RefusesEverything library → Starts library → ⊥
refuses_start library refuses starts = refuses start _ (starts (replicate 6 0) refl)

-- ---- one that grants block 4 each time

module _ (fit : Fit) where
  -- an alloc that is done answers block 4, whatever it grants and writes, and whatever the other calls do
  abbrev pub GrantsBlockFour : Library → Type 0
  GrantsBlockFour library = (w : ℕ) (a : List ℕ) → Done (library (alloc fit w) a).answer → (told (library (alloc fit w) a).answer).block ≡ 4

  -- if it keeps the room rule and grants its need with few words over, its blocks overlap: of 32 words, the first block
  -- leaves room for a second
  pub grants_block_four : (library : Library) → GrantsBlockFour library → RoomForAlloc library (alloc fit) → Known library → Apart library → ⊥
  unfolding enter
  grants_block_four library four room known apart =
      let o = in_thirty_two fit library room in
      let first = library (alloc fit 2) (library start (replicate 32 0)).words in
      let second = library (alloc fit 2) first.words in
      let is : (told first.answer).block ≡ 4 = four 2 _ o.done in
      let small = (known 32 _ o.started).alloc_grants fit 2 o.done in
      let done : Done second.answer = (room 32 _ o.once 2 (omega arith)).done.1 (λ short. omega (arith, is, small)) in
      let same : (told second.answer).block ≡ 4 = four 2 _ done in
      let twice = rw done at (next o.once (call (alloc fit 2)) tt) in
      omega (
        arith,
        is,
        same,
        apart 32 _ twice [] [] [] (entry_for 2 second.answer) (entry_for 2 first.answer)
            (rw (le-leb (told second.answer).block (told first.answer).block (omega arith))),
      )

-- ---- one that writes nothing

-- every call leaves the words as they were, whatever it answers
abbrev pub WritesNothing : Library → Type 0
WritesNothing library = (c : Call) (a : List ℕ) → (library c a).words ≡ a

module _ (fit : Fit) where
  -- if it keeps the room rule and its blocks lie inside, they overlap: a second alloc answers what the first did
  pub writes_nothing : (library : Library) → WritesNothing library → RoomForAlloc library (alloc fit) → Inside library → Apart library → ⊥
  unfolding enter
  writes_nothing library nothing room inside apart =
      let o = in_six fit library room in
      let a = (library start (replicate 6 0)).words in
      let e = entry_for 2 (library (alloc fit 2) a).answer in
      let z : (2 ≤ begins e) × (ends e ≤ 6) = inside 6 _ o.once e (inl refl) in
      omega (
        arith,
        z,
        apart 6 _ (next o.once (call (alloc fit 2)) tt) [] [] [] e e
            (rw (nothing (alloc fit 2) a, o.done, le-leb e.block e.block (omega arith))),
      )

-- it answers as ours does
abbrev pub answers_alone : Library
answers_alone c a = record { answer = (ours c a).answer; words = a }

-- it does not know its arena: right after the start, the report is refused for damage
pub answers_alone_lem : Known answers_alone → ⊥
unfolding report_on arena_gate sound walked walk_from walk meet
answers_alone_lem known = (known 6 _ (begun (replicate 6 0) refl refl)).never_damaged report (λ text is. clash cc) refl

-- ---- one that keeps a made-up total of free words

-- the total that it reports may depend on the arena's length, and on nothing else
abbrev pub MadeUpTotal : (ℕ → ℕ) → Library → Type 0
MadeUpTotal total library = (a : List ℕ) → free_words_in (library report a).answer ≡ total (length a)

module _ (fit : Fit) where
  -- if it keeps the room rule and its arena's length, its sum is wrong, before an alloc or after it
  pub made_up_total : (total : ℕ → ℕ) (library : Library) → MadeUpTotal total library → Lengths library → RoomForAlloc library (alloc fit)
      → Sums library → ⊥
  made_up_total total library made lengths room sums =
      let o = in_six fit library room in
      let before : total 6 ≡ 4 = rw (← lengths 6 _ o.started, ← made) (omega (arith, sums 6 _ o.started)) in
      let after : total 6 + ((told (library (alloc fit 2) (library start (replicate 6 0)).words).answer).granted + 2) ≡ 4 =
      rw (← lengths 6 _ o.once, ← made) (omega (arith, sums 6 _ o.once)) in
      omega arith

-- ---- one that reports no free chunks

-- the report tells 0 free chunks, which are never too many
abbrev pub ReportsNoChunks : Library → Type 0
ReportsNoChunks library = (a : List ℕ) → free_chunks_in (library report a).answer ≡ 0

-- they are not the gaps of the ledger: a new arena is one
pub reports_no_chunks : (library : Library) → ReportsNoChunks library → FreeChunksAreHoles library → ⊥
reports_no_chunks library none holes-are =
    omega (arith, none (library start (replicate 6 0)).words, holes-are 6 _ (begun (replicate 6 0) refl refl))

-- ---- one that never grants under one of the fits

module _ (fit : Fit) where
  -- an alloc under it is never done, for whatever reasons and whatever it writes
  abbrev pub NeverGrants : Library → Type 0
  NeverGrants library = (w : ℕ) (a : List ℕ) → Done (library (alloc fit w) a).answer → ⊥

  -- it breaks the promise of item 8: in a new arena of 6 words a request of 2 is sure
  pub never_grants : (library : Library) → NeverGrants library → PromiseByLedger library → ⊥
  never_grants library refuses kept = refuses 2 _ (kept 6 _ (begun (replicate 6 0) refl refl) fit 2 (omega arith) (omega arith))

-- ---- one that reports no live blocks

-- the report tells 0 live blocks, whatever else it tells
abbrev pub ReportsNone : Library → Type 0
ReportsNone library = (a : List ℕ) → live_blocks_in (library report a).answer ≡ 0

module _ (fit : Fit) where
  -- if it keeps the room rule, it does not know its arena: a block is held
  pub reports_none : (library : Library) → ReportsNone library → RoomForAlloc library (alloc fit) → Known library → ⊥
  reports_none library none room known =
      let o = in_six fit library room in
      omega (arith, none (library (alloc fit 2) (library start (replicate 6 0)).words).words, (known 6 _ o.once).live_blocks_lem)

-- ---- one that grants block 2, whose header is the control words, or a block that begins where the arena ends

module _ (fit : Fit) where
  -- an alloc that is done answers block 2, of which the control words are the header
  abbrev pub GrantsControlWords : Library → Type 0
  GrantsControlWords library = (w : ℕ) (a : List ℕ) → Done (library (alloc fit w) a).answer → (told (library (alloc fit w) a).answer).block ≡ 2

  -- if it keeps the room rule, its block is not inside
  pub grants_control_words : (library : Library) → GrantsControlWords library → RoomForAlloc library (alloc fit) → Inside library → ⊥
  grants_control_words library two room inside =
      let o = in_six fit library room in
      omega (arith, two 2 _ o.done, (inside 6 _ o.once _ (inl refl)).0)

  -- an alloc that is done answers a block that begins where the arena ends
  abbrev pub GrantsBeyond : Library → Type 0
  GrantsBeyond library = (w : ℕ) (a : List ℕ) → Done (library (alloc fit w) a).answer → (told (library (alloc fit w) a).answer).block ≡ length a

  -- if it keeps the room rule and its arena's length, and grants enough, its block is not inside
  pub grants_beyond : (library : Library) → GrantsBeyond library → Lengths library → RoomForAlloc library (alloc fit) → Known library
      → Inside library → ⊥
  grants_beyond library beyond lengths room known inside =
      let o = in_six fit library room in
      omega (
        arith,
        beyond 2 _ o.done,
        lengths 6 _ o.started,
        (known 6 _ o.started).alloc_grants fit 2 o.done,
        (inside 6 _ o.once _
            (inl refl)).1,
      )

-- ---- one that grants 2 words whatever is asked

module _ (fit : Fit) where
  -- an alloc that is done answers 2 granted words, whatever it writes, and whatever the other calls do
  abbrev pub GrantsTwoWords : Library → Type 0
  GrantsTwoWords library = (w : ℕ) (a : List ℕ) → Done (library (alloc fit w) a).answer → (told (library (alloc fit w) a).answer).granted ≡ 2

  -- if it keeps the room rule, it does not grant enough: a new arena of 8 words has room for 4
  pub grants_two_words : (library : Library) → GrantsTwoWords library → RoomForAlloc library (alloc fit) → Known library → ⊥
  grants_two_words library two room known =
      let o = has_once fit library room (replicate 8 0) 4 refl (omega arith) in
      omega (arith, two 4 _ o.done, (known 8 _ o.started).alloc_grants fit 4 o.done)

-- ---- one that grants the whole arena

module _ (fit : Fit) where
  -- an alloc that is done answers all words but the control words and a header, whatever is asked
  abbrev pub GrantsEverything : Library → Type 0
  GrantsEverything library = (w : ℕ) (a : List ℕ) → Done (library (alloc fit w) a).answer
      → (told (library (alloc fit w) a).answer).granted ≡ greatest_request (length a)

  -- if it keeps the room rule and its arena's length, it grants too much: of 32 words, a request for 2 has 28
  pub grants_everything : (library : Library) → GrantsEverything library → Lengths library → RoomForAlloc library (alloc fit) → Known library → ⊥
  grants_everything library all lengths room known =
      let o = in_thirty_two fit library room in
      omega (arith, all 2 _ o.done, lengths 32 _ o.started, (known 32 _ o.started).alloc_grants fit 2 o.done)

-- ---- one that grants just the need

module _ (fit : Fit) where
  -- an alloc that is done grants just its need, and leaves all that is over, whatever else it does
  abbrev pub GrantsJustTheNeed : Library → Type 0
  GrantsJustTheNeed library = (w : ℕ) (a : List ℕ) → Done (library (alloc fit w) a).answer
      → header_words + (told (library (alloc fit w) a).answer).granted ≡ need w

  -- if it keeps the room rule and its blocks lie inside, it leaves a crumb: of 12 words, a request for 2 leaves 6
  pub grants_just_the_need : (library : Library) → GrantsJustTheNeed library → RoomForAlloc library (alloc fit) → Inside library
      → NoMoreCrumbs library (alloc fit 2) → ⊥
  unfolding enter
  grants_just_the_need library exact room inside none = go (ltb 0 below) refl
    where
      o : Once fit library (replicate 12 0) 2
      o = has_once fit library room (replicate 12 0) 2 refl (omega arith)

      e : Entry
      e = entry_for 2 (library (alloc fit 2) (library start (replicate 12 0)).words).answer

      below : ℕ
      below = begins e - 2

      above : ℕ
      above = 12 - ends e

      within : (2 ≤ begins e) × (ends e ≤ 12)
      within = inside 12 _ o.once e (inl refl)

      no_crumbs : crumb below + (crumb above + 0) ≤ 0
      no_crumbs = rw o.done at (none 12 _ o.started)

      go : (some : Bool) → ltb 0 below ≡ some → ⊥
      go true is = omega (arith, no_crumbs, a_crumb below (ltb-true 0 below is) (omega (arith, exact 2 _ o.done, within)))
      go false is =
          omega (
            arith,
            no_crumbs,
            a_crumb above (omega (arith, ltb-false 0 below is, exact 2 _ o.done, within)) (omega (arith, exact 2 _ o.done, within)),
          )

-- ---- one that grants more, though there is no need to

module _ (fit : Fit) where
  -- an alloc that is done grants six words beyond its need, whatever else it does
  abbrev pub GrantsSixBeyond : Library → Type 0
  GrantsSixBeyond library = (w : ℕ) (a : List ℕ) → Done (library (alloc fit w) a).answer
      → header_words + (told (library (alloc fit w) a).answer).granted ≡ need w + 6

  -- if it keeps the room rule and its blocks lie inside, it does not take the gap whole: of 32 words, 20 are left
  pub grants_six_beyond : (library : Library) → GrantsSixBeyond library → RoomForAlloc library (alloc fit) → Inside library
      → NeedOrGap library (alloc fit) → ⊥
  unfolding enter
  grants_six_beyond library beyond room inside whole =
      ⊎_elim (λ just-need. omega (arith, just-need, six)) (λ one_less. go (ltb 0 below) refl (rw o.done at one_less))
      (whole 32 _ o.started 2 o.done)
    where
      o : Once fit library (replicate 32 0) 2
      o = in_thirty_two fit library room

      e : Entry
      e = entry_for 2 (library (alloc fit 2) (library start (replicate 32 0)).words).answer

      six : header_words + e.granted ≡ need 2 + 6
      six = beyond 2 _ o.done

      below : ℕ
      below = begins e - 2

      above : ℕ
      above = 32 - ends e

      within : (2 ≤ begins e) × (ends e ≤ 32)
      within = inside 32 _ o.once e (inl refl)

      go : (some : Bool) → ltb 0 below ≡ some → 1 + (hole below + (hole above + 0)) ≡ 1 → ⊥
      go true is no-hole = omega (arith, no-hole, a_hole below (ltb-true 0 below is))
      go false is no-hole = omega (arith, no-hole, a_hole above (omega (arith, ltb-false 0 below is, six, within)))

-- ---- one that never frees

-- free is never done, for whatever reasons and whatever it writes
abbrev pub NeverFrees : Library → Type 0
NeverFrees library = (b : ℕ) (a : List ℕ) → Done (library (free b) a).answer → ⊥

-- if it keeps the room rule, it does not know its arena: a block that is held can be freed
pub never_frees : (library : Library) → NeverFrees library → RoomForAlloc library (alloc first_fit) → Known library → ⊥
never_frees library refuses room known = refuses _ _ ((known 6 _ (in_six first_fit library room).once).free_listed _ (inl refl))

-- ---- one that never does a realloc

-- realloc is never done, for whatever reasons and whatever it writes
abbrev pub NeverRegrants : Library → Type 0
NeverRegrants library = (b w : ℕ) (a : List ℕ) → Done (library (realloc b w) a).answer → ⊥

-- if it keeps the room rule of alloc and grants enough, it fails that of realloc: a block has room for the words that
-- it has
pub never_regrants : (library : Library) → NeverRegrants library → RoomForAlloc library (alloc first_fit) → Known library
    → RoomForRealloc library realloc → ⊥
never_regrants library refuses room known regrants =
    refuses _ 2 _ ((regrants 6 _ (in_six first_fit library room).once [] [] _ refl 2 (omega arith)).done.1
    (λ short. own_room first_fit library room known short.1))

-- ---- one that never resizes, and one that moves a block on a resize

-- resize is never done, for whatever reasons and whatever it writes
abbrev pub NeverResizes : Library → Type 0
NeverResizes library = (b w : ℕ) (a : List ℕ) → Done (library (resize b w) a).answer → ⊥

-- a resize that is done answers another block
abbrev pub ResizeMoves : Library → Type 0
ResizeMoves library = (b w : ℕ) (a : List ℕ) → Done (library (resize b w) a).answer → (told (library (resize b w) a).answer).block ≢ b

-- of a library that keeps the room rules of alloc and resize and grants enough, a resize is done: a block has room for
-- the words that it has
a_resize : (library : Library) → RoomForAlloc library (alloc first_fit) → Known library → RoomForResize library resize
    → let a = (library start (replicate 6 0)).words in let first = library (alloc first_fit 2) a in
    Done (library (resize (told first.answer).block 2) first.words).answer
a_resize library room known resizes = (resizes 6 _ (in_six first_fit library room).once [] [] _ refl 2 (omega arith)).done.1
    (own_room first_fit library room known)

-- so it cannot be one that never resizes
pub never_resizes : (library : Library) → NeverResizes library → RoomForAlloc library (alloc first_fit) → Known library
    → RoomForResize library resize → ⊥
never_resizes library refuses room known resizes = refuses _ 2 _ (a_resize library room known resizes)

-- nor one that moves a block on a resize: the number is known to stay
pub resize_moves : (library : Library) → ResizeMoves library → RoomForAlloc library (alloc first_fit) → Known library
    → RoomForResize library resize → ⊥
resize_moves library moves room known resizes =
    let done = a_resize library room known resizes in
    moves _ 2 _ done ((known 6 _ (in_six first_fit library room).once).resize_stays _ 2 done)

-- the only block of an arena is resized, and stays
record OnlyResized (library : Library) (n : ℕ) (words : List ℕ) (e : Entry) (w : ℕ) : Type 0 where
  done : Done (library (resize e.block w) words).answer
  stays : (told (library (resize e.block w) words).answer).block ≡ e.block
  run : Run library n
      (record { words = (library (resize e.block w) words).words; ledger = entry_for w (library (resize e.block w) words).answer ∷ [] })

only_resized : (library : Library) → Known library → RoomForResize library resize → (n : ℕ) (words : List ℕ) (e : Entry)
    → Run library n (record { words = words; ledger = e ∷ [] }) → (w : ℕ) → LawfulRequest n w → (RoomShorter (need w) n e [] → ⊥)
    → OnlyResized library n words e w
unfolding enter strike
only_resized library known resizes n words e only w lawful enough =
    let done : Done (library (resize e.block w) words).answer = (resizes n _ only [] [] e refl w lawful).done.1 enough in
    record {
      done = done;
      stays = (known n _ only).resize_stays e.block w done;
      run = rw (done, eq-eqb e.block e.block refl) at (next only (call (resize e.block w)) tt);
    }

-- a resize that is done grants just its need, and leaves all that is over
abbrev pub ResizesToTheNeed : Library → Type 0
ResizesToTheNeed library = (b w : ℕ) (a : List ℕ) → Done (library (resize b w) a).answer
    → header_words + (told (library (resize b w) a).answer).granted ≡ need w

-- if it keeps the room rules of alloc and resize and its blocks lie inside, it leaves a crumb: of 12 words, block 4 has
-- 8, and is asked for 2
pub resizes_to_the_need : (library : Library) → ResizesToTheNeed library → RoomForAlloc library (alloc first_fit) → Inside library → Known library
    → RoomForResize library resize → ((b : ℕ) → NoMoreCrumbs library (resize b 2)) → ⊥
unfolding enter strike
resizes_to_the_need library exact room inside known resizes none =
    let o = has_once first_fit library room (replicate 12 0) 8 refl (omega arith) in
    let e = entry_for 8 (library (alloc first_fit 8) (library start (replicate 12 0)).words).answer in
    let within : (2 ≤ begins e) × (ends e ≤ 12) = inside 12 _ o.once e (inl refl) in
    let enough = (known 12 _ o.started).alloc_grants first_fit 8 o.done in
    let at-four : e.block ≡ 4 = omega (arith, within, enough) in
    let r = only_resized library known resizes 12 _ e o.once 2 (omega arith) (λ short. omega (arith, short, enough)) in
    let answer = (library (resize e.block 2) (library (alloc first_fit 8) (library start (replicate 12 0)).words).words).answer in
    let six : 12 - ends (entry_for 2 answer) ≡ 6 = omega (arith, r.stays, exact _ 2 _ r.done, at-four) in
    let low : begins e - 2 ≡ 0 = omega (arith, at-four) in
    let high : 12 - ends e ≡ 0 = omega (arith, within, enough, at-four) in
    let before : crumb (begins e - 2) + (crumb (12 - ends e) + 0) ≡ 0 = rw (low, high) refl in
    let after-it : crumb (12 - ends (entry_for 2 answer)) ≡ 1 = rw six refl in
    omega (arith, before, after-it, rw (r.done, eq-eqb e.block e.block refl) at (none e.block 12 _ o.once))

-- a resize that is done grants six words beyond its need
abbrev pub ResizesSixBeyond : Library → Type 0
ResizesSixBeyond library = (b w : ℕ) (a : List ℕ) → Done (library (resize b w) a).answer
    → header_words + (told (library (resize b w) a).answer).granted ≡ need w + 6

-- if it keeps the room rules of alloc and resize and its blocks lie inside, it does not take the room whole: of 32
-- words, the block is granted 8 for 2 and 10 for 4, and not both end where the arena ends
pub resizes_six_beyond : (library : Library) → ResizesSixBeyond library → RoomForAlloc library (alloc first_fit) → Inside library → Known library
    → RoomForResize library resize → NeedOrRoom library resize → ⊥
resizes_six_beyond library beyond room inside known resizes whole =
    let o = in_thirty_two first_fit library room in
    let e = entry_for 2 (library (alloc first_fit 2) (library start (replicate 32 0)).words).answer in
    let within : (2 ≤ begins e) × (ends e ≤ 32) = inside 32 _ o.once e (inl refl) in
    let enough = (known 32 _ o.started).alloc_grants first_fit 2 o.done in
    let two = only_resized library known resizes 32 _ e o.once 2 (omega arith) (λ short. omega (arith, short, enough)) in
    let eight = beyond _ 2 _ two.done in
    let low = (inside 32 _ two.run _ (inl refl)).1 in
    let four = only_resized library known resizes 32 _ e o.once 4 (omega arith)
    (λ short. omega (arith, short, within, low, two.stays, eight)) in
    let ten = beyond _ 4 _ four.done in
    let high = (inside 32 _ four.run _ (inl refl)).1 in
    ⊎_elim (λ just-need. omega (arith, just-need, eight)) (λ at_end. omega (arith, at_end, eight, ten, high, four.stays))
    (whole 32 _ o.once [] [] e refl 2 two.done two.stays)

-- each call is ours, but resize is another
abbrev with_resize : (ℕ → ℕ → List ℕ → Outcome) → Library
with_resize other start a = ours start a
with_resize other (alloc fit w) a = ours (alloc fit w) a
with_resize other (free b) a = ours (free b) a
with_resize other (resize b w) a = other b w a
with_resize other (relocate b w) a = ours (relocate b w) a
with_resize other (realloc b w) a = ours (realloc b w) a
with_resize other (size b) a = ours (size b) a
with_resize other (view b) a = ours (view b) a
with_resize other report a = ours report a
with_resize other (write_picture text) a = ours (write_picture text) a
with_resize other (read text) a = ours (read text) a

-- a resize moves the block where it cannot stay
abbrev pub resize_reallocates : Library
resize_reallocates = with_resize (λ b w a. ours (realloc b w) a)

-- a block is known to stay: of 20 words, block 14 has no room above it, and the resize answers block 4
pub resize_reallocates_lem : Known resize_reallocates → ⊥
unfolding start_on alloc_by regrant_by arena_gate request_gate sound chunks_of walked walk_from walk meet lowest joined copied written write header enter
    strike
resize_reallocates_lem known =
    let held : Run resize_reallocates 20 _ = next (next (begun (replicate 20 0) refl refl) (call (alloc first_fit 2)) tt)
    (call (alloc first_fit 2)) tt in
    let stays : ◌≡◌ {A = ℕ} 4 14 = (known 20 _ held).resize_stays 14 4 refl in
    omega arith

-- ---- one that loses two words when shrinking

-- a resize that would give up two words answers the words that the block has, and writes nothing
abbrev pub loses_two_words : Library
loses_two_words =
    with_resize (λ b w a.
    let had = granted_field (ours (size b) a).answer.values in
    let resized = ours (resize b w) a in
    cond (eqb ((told resized.answer).granted + 2) had) (record { answer = success (b ∷ had ∷ []); words = a }) resized)

-- beside a gap a block shrinks to its need: of 16 words, block 4 has 6 and a gap above it, and is asked for 4
pub loses_two_words_lem : ShrinksToNeed loses_two_words resize → ⊥
unfolding start_on alloc_by free_on regrant_by size_on arena_gate request_gate sound chunks_of walked walk_from walk meet lowest joined copied written write
    header enter strike
loses_two_words_lem shrinks =
    let held : Run loses_two_words 16 _ =
    next (next (next (begun (replicate 16 0) refl refl) (call (alloc first_fit 4)) tt) (call (alloc first_fit 4)) tt) (call (free 12)) tt in
    let granted : ◌≡◌ {A = ℕ} 6 4 =
    ap (λ (answer : Answer). (told answer).granted)
    (shrinks 16 _ held [] [] (record { block = 4; granted = 6; asked = 4 }) refl 4 (omega arith) (omega arith) (omega arith)) in
    omega arith

-- ---- one that tells the granted words twice, and one that keeps an older request's number

-- what size tells first is what it tells next
abbrev pub TellsGrantedTwice : Library → Type 0
TellsGrantedTwice library = (b : ℕ) (a : List ℕ) → let told_of = (library (size b) a).answer.values in get_or told_of 0 0 ≡ granted_field told_of

-- if it keeps the room rule, it does not know its arena: for 1 word, 2 or more are granted
pub tells_granted_twice : (library : Library) → TellsGrantedTwice library → RoomForAlloc library (alloc first_fit) → Known library → ⊥
tells_granted_twice library twice room known =
    let a = (library start (replicate 6 0)).words in
    let o = has_once first_fit library room (replicate 6 0) 1 refl (omega arith) in
    let e : Entry = entry_for 1 (library (alloc first_fit 1) a).answer in
    let words = (library (alloc first_fit 1) a).words in
    let sized = (known 6 _ o.once).size_listed e (inl refl) in
    let asked : get_or (library (size e.block) words).answer.values 0 0 ≡ 1 = ap (λ (x : Answer). get_or x.values 0 0) sized in
    let has : granted_field (library (size e.block) words).answer.values ≡ e.granted = ap (λ (x : Answer). granted_field x.values) sized in
    omega (arith, asked, has, twice e.block words, (known 6 _ o.started).alloc_grants first_fit 1 o.done)

-- a resize that keeps the length answers as ours does, and writes nothing
abbrev pub keeps_old_number : Library
keeps_old_number =
    with_resize (λ b w a.
    let resized = ours (resize b w) a in
    let had = granted_field (ours (size b) a).answer.values in
    cond (eqb (told resized.answer).granted had) (record { answer = resized.answer; words = a }) resized)

-- it does not tell what was asked for last: of 6 words, block 4 was asked for with 2 words, and is resized to 1
pub keeps_old_number_lem : SizeTellsAsked keeps_old_number → ⊥
unfolding start_on alloc_by regrant_by size_on arena_gate request_gate sound chunks_of walked walk_from walk meet lowest joined written write header enter
    strike
keeps_old_number_lem tells =
    let held : Run keeps_old_number 6 _ = next (begun (replicate 6 0) refl refl) (call (alloc first_fit 2)) tt in
    let (granted, tells-one) = tells 6 _ 4 1 (just_asked held (call (resize 4 1)) tt 1 (inr (4, (refl, refl)))) in
    let two : ◌≡◌ {A = ℕ} 2 1 = ap (λ (x : Answer). get_or x.values 0 0) tells-one in
    omega arith

-- ---- one that never relocates, and one that leaves the block where it is

-- relocate is never done, for whatever reasons and whatever it writes
abbrev pub NeverRelocates : Library → Type 0
NeverRelocates library = (b w : ℕ) (a : List ℕ) → Done (library (relocate b w) a).answer → ⊥

-- a relocate that is done answers the block that it was given
abbrev pub RelocateStays : Library → Type 0
RelocateStays library = (b w : ℕ) (a : List ℕ) → Done (library (relocate b w) a).answer → (told (library (relocate b w) a).answer).block ≡ b

-- of a library that keeps the room rules of alloc and relocate and grants its need with few words over, a relocate is
-- done: of 32 words, the first block leaves room for a second
a_relocate : (library : Library) → RoomForAlloc library (alloc first_fit) → Known library → RoomForRelocate library relocate
    → let a = (library start (replicate 32 0)).words in let first = library (alloc first_fit 2) a in
    Done (library (relocate (told first.answer).block 2) first.words).answer
a_relocate library room known relocates =
    let o = in_thirty_two first_fit library room in
    let e = entry_for 2 (library (alloc first_fit 2) (library start (replicate 32 0)).words).answer in
    let small = (known 32 _ o.started).alloc_grants first_fit 2 o.done in
    (relocates 32 _ o.once e (inl refl) 2 (omega arith)).done.1 (λ short. omega (arith, short, small))

-- so it cannot be one that never relocates
pub never_relocates : (library : Library) → NeverRelocates library → RoomForAlloc library (alloc first_fit) → Known library
    → RoomForRelocate library relocate → ⊥
never_relocates library refuses room known relocates = refuses _ 2 _ (a_relocate library room known relocates)

-- nor one that leaves the block where it is: it is known to have a new number
pub relocate_stays : (library : Library) → RelocateStays library → RoomForAlloc library (alloc first_fit) → Known library
    → RoomForRelocate library relocate → ⊥
relocate_stays library stays room known relocates =
    let done = a_relocate library room known relocates in
    (known 32 _ (in_thirty_two first_fit library room).once).relocate_moves _ 2 done (stays _ 2 _ done)

-- ---- one that hands back words of any number

-- view never answers the empty part
abbrev pub ViewsEverything : Library → Type 0
ViewsEverything library = (b : ℕ) (a : List ℕ) → (library (view b) a).answer ≢ success []

-- it does not know its arena: a new arena has no block 4
pub views_everything : (library : Library) → ViewsEverything library → Known library → ⊥
views_everything library hands known = hands 4 _ ((known 6 _ (begun (replicate 6 0) refl refl)).view_unlisted 4 (λ e listed. absurd listed))

-- ---- one that moves a block without its words

-- each call answers as ours does and writes the same headers, but copies nothing
abbrev pub copies_nothing : Library
copies_nothing c a = record { answer = (ours c a).answer; words = written (chunks_of (ours c a).words) a }

-- a block does not keep its words: of 20 words, block 14 holds a 5 and is moved to block 4
pub copies_nothing_lem : Keeps copies_nothing → ⊥
unfolding start_on alloc_by regrant_by arena_gate request_gate sound chunks_of walked walk_from walk meet lowest joined copied written write header enter
    strike
copies_nothing_lem keeps =
    let held : Run copies_nothing 20 _ = next (next (begun (replicate 20 0) refl refl) (call (alloc first_fit 2)) tt) (call (alloc first_fit 2)) tt in
    let stored : Run copies_nothing 20 _ = next held (store 14 0 5) ((record { block = 14; granted = 2; asked = 2 }, inl refl, refl, omega arith), omega arith) in
    ⊎_elim
    (λ ended. ⊎_elim (λ is. clash cc) (λ is. clash cc) ended.1)
    (λ goes.
    let moved : goes.later.block ≡ 4 = goes.number_is in
    let long : 1 ≤ goes.later.granted =
    ⊎_elim (λ is. rw (← is) (omega arith)) (⊎_elim (λ is. rw (← is) (omega arith)) (λ none. absurd none)) goes.listed in
    let lost : ◌≡◌ {A = ℕ} 0 5 = rw moved at (goes.words_kept 0 (omega arith)) in
    omega arith)
    (keeps 20 _ stored (call (realloc 14 4)) tt (record { block = 14; granted = 2; asked = 2 }) (inl refl))

-- ---- one that clears a block when its size is asked

-- a size that is done leaves 0 in the first word of its block, whatever else it writes, and whatever the other calls do
abbrev pub Forgets : Library → Type 0
Forgets library = (b : ℕ) (a : List ℕ) → Done (library (size b) a).answer → get_or (library (size b) a).words b 0 ≡ 0

-- if it keeps the room rule and knows its arena, what was stored last does not last: a 5 is stored, then size is asked
pub forgets : (library : Library) → Forgets library → RoomForAlloc library (alloc first_fit) → Known library → Lasts library → ⊥
forgets library zeroes room known lasts =
    let o = in_six first_fit library room in
    let a = (library start (replicate 6 0)).words in
    let e = entry_for 2 (library (alloc first_fit 2) a).answer in
    let enough = (known 6 _ o.started).alloc_grants first_fit 2 o.done in
    let held : Allowed (store e.block 0 5) (e ∷ []) = ((e, inl refl, refl, omega arith), omega arith) in
    let stored = next o.once (store e.block 0 5) held in
    let w = set (library (alloc first_fit 2) a).words (e.block + 0) 5 in
    let done : Done (library (size e.block) w).answer = rw ((known 6 _ stored).size_listed e (inl refl)) in
    let last = still (just o.once e.block 0 5 held) (call (size e.block)) tt
    (λ ended. ⊎_elim (λ is. clash cc) (λ is. clash cc) ended.1) (λ cut. let is = cut.1 in clash cc) (λ v is. clash cc) in
    let zero : get_or (library (size e.block) w).words (e.block + 0) 0 ≡ 0 =
    ap (λ k. get_or (library (size e.block) w).words k 0) (add-zero e.block) ∙ zeroes e.block w done in
    let five : get_or (library (size e.block) w).words (e.block + 0) 0 ≡ 5 = rw done at (lasts 6 _ _ 0 5 last) in
    omega arith

-- ---- one that never reads a picture, one that reads any text, and one that reads nothing

-- in a sound arena of 6 words, block 4, for which 1 word was asked, holds a 5
abbrev five_held : List ℕ
five_held = 6 ∷ 0 ∷ 4 ∷ 2147483649 ∷ 5 ∷ 0 ∷ []

five_says : Says (picture_of five_held) five_held
five_says = picture_says five_held (omega arith) (omega arith)

-- a library that receives pictures reads this one into 6 words that are all zero
a_reading : (library : Library) → Receives library → Done (library (read (picture_of five_held)) (replicate 6 0)).answer
unfolding sound walked walk_from walk meet
a_reading library receives = (receives (replicate 6 0) (picture_of five_held)).1 (five_held, five_says, refl, refl)

-- no reading is ever done, for whatever reasons and whatever it writes
abbrev pub NeverReads : Library → Type 0
NeverReads library = (text a : List ℕ) → Done (library (read text) a).answer → ⊥

-- it does not receive that picture
pub never_reads : (library : Library) → NeverReads library → Receives library → ⊥
never_reads library refuses receives = refuses _ _ (a_reading library receives)

-- every reading is done, whatever the text
abbrev pub ReadsAnything : Library → Type 0
ReadsAnything library = (text a : List ℕ) → Done (library (read text) a).answer

-- it receives more than pictures: the empty text is none
pub reads_anything : (library : Library) → ReadsAnything library → Receives library → ⊥
reads_anything library reads receives =
    let (ws, says, long, is_sound) = (receives [] []).0 (reads [] []) in
    omega (arith, picture_length_lem ws, ap length says.is)

-- a reading leaves the words as they were, whatever it answers
abbrev pub ReadsNothing : Library → Type 0
ReadsNothing library = (text a : List ℕ) → (library (read text) a).words ≡ a

-- if it receives pictures, what they show is not there: block 4 holds a 0
pub reads_nothing : (library : Library) → ReadsNothing library → Receives library → Lasts library → ⊥
unfolding chunks_of walked walk_from walk meet
reads_nothing library nothing receives lasts =
    let text = picture_of five_held in
    let before : State = record { words = replicate 6 0; ledger = [] } in
    let done = a_reading library receives in
    let is = (said_says text five_held).1 five_says in
    let held : Held (after library (call (read text)) before).ledger 4 0 =
    rw (done, is) (record { block = 4; granted = 2; asked = 1 }, inl refl, refl, omega arith) in
    let last = pictured before text (arrived text (replicate 6 0) refl done) done 4 0 held in
    let five : get_or (library (read text) (replicate 6 0)).words 4 0 ≡ 5 = rw is at (lasts 6 _ 4 0 _ last) in
    let zero : get_or (library (read text) (replicate 6 0)).words 4 0 ≡ 0 = ap (λ (a : List ℕ). get_or a 4 0) (nothing text (replicate 6 0)) in
    omega arith

-- ---- one that never writes a picture

-- no writing is ever done, for whatever reasons and however long the text is
abbrev pub NeverWrites : Library → Type 0
NeverWrites library = (text a : List ℕ) → Done (library (write_picture text) a).answer → ⊥

-- it does not know its arena: a text as long as the picture has room for it
pub never_writes : (library : Library) → NeverWrites library → Known library → ⊥
never_writes library refuses known =
    let long = picture_length (length (library start (replicate 6 0)).words) in
    refuses (replicate long 0) _
    (((known 6 _ (begun (replicate 6 0) refl refl)).write_room (replicate long 0)).done.1 (λ short. omega (arith, length-replicate {A = ℕ} long 0)))
