-- What was asked for last, over every run: the ledger has it of every block, and size answers it.
use mathlib.Core.Path.{◌≡◌, refl, sym, ap, ◌∙◌, subst}
use mathlib.Core.Logic.{inl, inr, ⊎_elim}
use mathlib.Core.Bool.{Bool, true, false, cond}
use mathlib.Core.List.{List, [], ◌∷◌}
use Prim.Native.Nat.{ℕ, ◌+◌, ◌-◌}
use native.Mathlib.Omega.{arith}
use lib.Dec.{eqb}
use lib.ListN.{length, get_or}
use borrow.Author.Tests.{eqb-true, eqb-false}
use Rattle.layout.specs.Numbers.{first_chunk}
use Rattle.layout.specs.Chunks.{live, total}
use Rattle.layout.specs.Walk.{asked_in}
use Rattle.layout.proofs.Holds.{holds_split}
use Rattle.layout.proofs.Written.{Arena}
use Rattle.layout.proofs.Round.{sound_chunks}
use Rattle.layout.proofs.Bools.{clash}
use Rattle.rules.specs.Fits.{Policies}
use Rattle.rules.specs.Picks.{AllFitting}
use Rattle.rules.specs.Pictures.{said}
use Rattle.rules.specs.Libraries.{start, alloc, free, resize, relocate, realloc, size, view, report, write, read, Library, library_by}
use Rattle.rules.specs.Answers.{Answer, success}
use Rattle.rules.specs.Calls.{read_on}
use Rattle.ledger.specs.Events.{Event, call, store}
use Rattle.ledger.specs.Ledger.{Entry, Ledger, Effect, renews, grants, frees, regrants, spares, effect, entry_for, noted, pictured_blocks, Done, Listed}
use Rattle.ledger.specs.Runs.{State, Allowed, answer_to, after, Run, begun, arrived, next}
use Rattle.ledger.specs.Holders.{pictured_word, Ended, Anew, AskedLast, just_asked, just_pictured, still_asked}
use Rattle.ledger.specs.Demands.{SizeTellsAsked, LedgerKeepsAsked, Known}
use Rattle.ledger.proofs.Entries.{enter_listed, listed_entered, listed_struck}
use Rattle.ledger.proofs.Agreeing.{Agrees, listed_chunked}
use Rattle.ledger.proofs.PicturesRead.{read_agrees, read_shows}
use Rattle.ledger.proofs.Onward.{Onward, ends, stays, changes, onward}

-- ---- what the words say of an entry

-- the word before a block says what was asked for
word_asks : (n : ℕ) (a : List ℕ) (ledger : Ledger) → Agrees n a ledger → (e : Entry) → Listed ledger e
    → asked_in (get_or a (e.block - 1) 0) ≡ e.asked
word_asks n a ledger g e l =
    let (above, k) = listed_chunked n a ledger g e l in
    let c : ℕ = first_chunk + total k.pre in
    let arena : Arena a _ = rw k.same at (sound_chunks a g.is_sound) in
    let header = (holds_split a first_chunk k.pre (live k.s k.asked ∷ k.post) 0 c refl arena.linked.1).1 in
    let block : e.block - 1 ≡ c + 1 = omega (arith, ap (λ (f : Entry). f.block) k.is) in
    rw block (omega (arith, header.1, ap (λ (f : Entry). f.asked) k.is))

-- an entry of number `b` has `w` as what was asked for
abbrev ListedAsking : Ledger → ℕ → ℕ → Type 0
ListedAsking ledger b w = (e : Entry) × Listed ledger e × (e.block ≡ b) × (e.asked ≡ w)

-- ---- an event, by any library

module _ (library : Library) where
  -- what an event asks for that is done is in the ledger
  granted_asking : (event : Event) (s : State) (w : ℕ) → Done (answer_to library event s) → effect event ≡ grants w
      → Listed (after library event s).ledger (entry_for w (answer_to library event s))
  granted_asking event s w done p = rw (done, p) (enter_listed (entry_for w (answer_to library event s)) s.ledger)

  anew_asking : (event : Event) (s : State) (b w : ℕ) → Anew library event s b w
      → Listed (after library event s).ledger (entry_for w (answer_to library event s))
  anew_asking event s b w (done, p) = rw (done, p) (enter_listed (entry_for w (answer_to library event s)) _)

  -- a block that an event neither ends nor grants anew keeps its entry
  still_asking : (event : Event) (s : State) (b w : ℕ) → ListedAsking s.ledger b w → (Ended library event s b → ⊥)
      → ((v : ℕ) → Anew library event s b v → ⊥) → ListedAsking (after library event s).ledger b w
  still_asking event s b w (e, l, q, r) unended same = go (onward library event s e l)
    where
      go : {then : Ledger} {c : ℕ} → Onward library event s e then c → ListedAsking then b w
      go (ends end) = absurd (unended (rw q at end))
      go (stays m p) = (e, m, q, r)
      go (changes v anew m p) = absurd (same v (rw q at anew))

  -- the run up to a state in which something was asked for last
  asked_run : {n : ℕ} {s : State} {b w : ℕ} → AskedLast library n s b w → Run library n s
  asked_run (just_asked run event allowed w asks) = next run event allowed
  asked_run (just_pictured s text run done e l) = run
  asked_run (still_asked t event allowed unended same) = next (asked_run t) event allowed

-- ---- our calls, under any policies that are fitting

module _ (policies : Policies) (fitting : AllFitting policies) where
  -- what a picture shows that was read is what the ledger has then
  pictured_asks : {n : ℕ} (s : State) (text : List ℕ) → Run (library_by policies) n (after (library_by policies) (call (read text)) s)
      → Done (answer_to (library_by policies) (call (read text)) s) → (e : Entry)
      → Listed (after (library_by policies) (call (read text)) s).ledger e
      → e.asked ≡ asked_in (pictured_word (said text) (e.block - 1))
  pictured_asks s text run done e l =
      let agrees = read_agrees text s.words done (length s.words) refl in
      let asks = word_asks _ (read_on text s.words).words (pictured_blocks (said text)) agrees e (rw done at l) in
      sym asks ∙ ap asked_in (read_shows text s.words done (e.block - 1))

  -- so of every entry
  read_last : {n : ℕ} (s : State) (text : List ℕ) → Run (library_by policies) n (after (library_by policies) (call (read text)) s)
      → Done (answer_to (library_by policies) (call (read text)) s) → (e : Entry) → Listed (pictured_blocks (said text)) e
      → AskedLast (library_by policies) n (after (library_by policies) (call (read text)) s) e.block e.asked
  read_last {n} s text run done e l =
      let m : Listed (after (library_by policies) (call (read text)) s).ledger e = rw done l in
      subst (AskedLast (library_by policies) n _ e.block) (sym (pictured_asks s text run done e m)) (just_pictured s text run done e m)

  -- what was asked for last is in the ledger
  last_listed : {n : ℕ} {s : State} {b w : ℕ} → AskedLast (library_by policies) n s b w → ListedAsking s.ledger b w
  last_listed (just_asked {s} run event allowed w (inl (done, p))) = (_, granted_asking (library_by policies) event s w done p, refl, refl)
  last_listed (just_asked {s} run event allowed w (inr (b, anew))) = (_, anew_asking (library_by policies) event s b w anew, refl, refl)
  last_listed (just_pictured s text run done e l) = (e, l, refl, pictured_asks s text run done e l)
  last_listed (still_asked {s} {b} {w} t event allowed unended same) =
      still_asking (library_by policies) event s b w (last_listed t) unended same

  pub size_tells_asked : Known (library_by policies) → SizeTellsAsked (library_by policies)
  size_tells_asked known n s b w t =
      let (e, l, q, r) = last_listed t in
      (e.granted, go (λ c. (library_by policies (size c) s.words).answer) b w e q r ((known n s (asked_run (library_by policies) t)).size_listed e l))
    where
      go : (answer : ℕ → Answer) (b w : ℕ) (e : Entry) → e.block ≡ b → e.asked ≡ w
          → answer e.block ≡ success (e.asked ∷ e.granted ∷ []) → answer b ≡ success (w ∷ e.granted ∷ [])
      go answer b w e q r told = rw (← q, ← r) told

  -- ---- every entry of the ledger was asked for

  -- an event that renews the ledger reads a picture, or leaves no entry
  renewed_last : {n : ℕ} {s : State} → Run (library_by policies) n s → (event : Event) → Allowed event s.ledger
      → Done (answer_to (library_by policies) event s) → (blocks : Ledger) → effect event ≡ renews blocks → (e : Entry) → Listed blocks e
      → AskedLast (library_by policies) n (after (library_by policies) event s) e.block e.asked
  renewed_last run (call start) allowed done blocks p e l = let none : blocks ≡ [] = cc in absurd (rw none at l)
  renewed_last run (call (alloc fit w)) allowed done blocks p e l = absurd (clash cc)
  renewed_last run (call (free b)) allowed done blocks p e l = absurd (clash cc)
  renewed_last run (call (resize b w)) allowed done blocks p e l = absurd (clash cc)
  renewed_last run (call (relocate b w)) allowed done blocks p e l = absurd (clash cc)
  renewed_last run (call (realloc b w)) allowed done blocks p e l = absurd (clash cc)
  renewed_last run (call (size b)) allowed done blocks p e l = absurd (clash cc)
  renewed_last run (call (view b)) allowed done blocks p e l = absurd (clash cc)
  renewed_last run (call report) allowed done blocks p e l = absurd (clash cc)
  renewed_last run (call (write text)) allowed done blocks p e l = absurd (clash cc)
  renewed_last run (store b i v) allowed done blocks p e l = absurd (clash cc)
  renewed_last {n} {s} run (call (read text)) allowed done blocks p e l =
      let same : blocks ≡ pictured_blocks (said text) = cc in
      read_last s text (next run (call (read text)) allowed) done e (rw same at l)

  -- an event that neither ends the block nor grants it anew leaves what was asked for
  module _ {n : ℕ} {s : State} (run : Run (library_by policies) n s) (event : Event) (allowed : Allowed event s.ledger)
      (before : (e : Entry) → Listed s.ledger e → AskedLast (library_by policies) n s e.block e.asked) where
    abbrev Asked : Entry → Type 0
    Asked e = AskedLast (library_by policies) n (after (library_by policies) event s) e.block e.asked

    kept_asked : (e : Entry) → Listed s.ledger e → (Ended (library_by policies) event s e.block → ⊥)
        → ((v : ℕ) → Anew (library_by policies) event s e.block v → ⊥) → Asked e
    kept_asked e l unended same = still_asked (before e l) event allowed unended same

    noted_asked : Done (answer_to (library_by policies) event s) → (what : Effect) → effect event ≡ what → (e : Entry)
        → Listed (noted what (answer_to (library_by policies) event s) s.ledger) e → Asked e
    noted_asked done (renews blocks) p e l = renewed_last run event allowed done blocks p e l
    noted_asked done (grants w) p e l =
        ⊎_elim (λ is. rw (← is) (just_asked run event allowed w (inl (done, p))))
        (λ m. kept_asked e m (λ end. ⊎_elim (λ q. clash cc) (λ q. clash cc) end.1) (λ v anew. clash cc))
        (listed_entered (entry_for w (answer_to (library_by policies) event s)) s.ledger e l)
    noted_asked done (frees b) p e l =
        let (other, m) = listed_struck b s.ledger e l in
        kept_asked e m (λ end. ⊎_elim (λ q. other cc) (λ q. clash cc) end.1) (λ v anew. clash cc)
    noted_asked done (regrants b w) p e l =
        ⊎_elim (λ is. rw (← is) (just_asked run event allowed w (inr (b, (done, p)))))
        (λ m. let (other, k) = listed_struck b s.ledger e m in
        kept_asked e k (λ end. ⊎_elim (λ q. clash cc) (λ q. clash cc) end.1) (λ v anew. other cc))
        (listed_entered (entry_for w (answer_to (library_by policies) event s)) _ e l)
    noted_asked done spares p e l = kept_asked e l (λ end. ⊎_elim (λ q. clash cc) (λ q. clash cc) end.1) (λ v anew. clash cc)

    event_asked : (e : Entry) → Listed (after (library_by policies) event s).ledger e → Asked e
    event_asked e l = go (eqb (answer_to (library_by policies) event s).code 0) refl l
      where
        go : (done : Bool) → eqb (answer_to (library_by policies) event s).code 0 ≡ done
            → Listed (cond done (noted (effect event) (answer_to (library_by policies) event s) s.ledger) s.ledger) e → Asked e
        go true q l = noted_asked (eqb-true _ 0 q) (effect event) refl e l
        go false q l = kept_asked e l (λ end. eqb-false _ 0 q end.0) (λ v anew. eqb-false _ 0 q anew.0)

  pub ledger_keeps_asked : LedgerKeepsAsked (library_by policies)
  ledger_keeps_asked n s (begun a long l) e listed = absurd listed
  ledger_keeps_asked n s (arrived text a long done) e listed =
      read_last (record { words = a; ledger = [] }) text (arrived text a long done) done e (rw done at listed)
  ledger_keeps_asked n s (next {s = before} run event allowed) e listed =
      event_asked run event allowed (λ f l. ledger_keeps_asked n before run f l) e listed
