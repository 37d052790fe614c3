-- Each call of this project goes as a ledger notes it.
use mathlib.Core.Path.{◌≡◌, refl, sym, ◌∙◌}
use mathlib.Core.Bool.{Bool, true, false, cond}
use mathlib.Core.List.{List, []}
use Prim.Native.Nat.{ℕ}
use native.Mathlib.Omega.{arith}
use lib.Dec.{eqb}
use lib.ListN.{length}
use borrow.Author.Tests.{eqb-true, ne_eqb}
use Rattle.layout.specs.Numbers.{need}
use Rattle.layout.specs.Reasons.{number}
use Rattle.layout.specs.declared.Reason.{Reason}
use Rattle.layout.proofs.Reasons.{number_positive}
use Rattle.rules.specs.Answers.{Outcome, success, refusal}
use Rattle.rules.specs.Rooms.{Needed}
use Rattle.rules.specs.Pictures.{said}
use Rattle.rules.specs.Causes.{LawfulRequest, ReadRefused}
use Rattle.rules.specs.Fits.{Policies}
use Rattle.rules.specs.Picks.{AllFitting}
use Rattle.rules.specs.Libraries.{Call, start, alloc, free, resize, relocate, realloc, size, view, report, write, read, library_by}
use Rattle.layout.proofs.Round.{sound_lawful}
use Rattle.rules.proofs.Gates.{request_needed}
use Rattle.rules.proofs.Starting.{whole_lawful}
use Rattle.rules.proofs.CallCases.{Case, refuses, does, Restarts, restarts, start_case, Allots, allots, alloc_by_case, Frees, frees, free_case}
use Rattle.rules.proofs.CallCases.{Measures}
use Rattle.rules.proofs.CallCases.{measures, size_case, Reports, reports, report_case}
use Rattle.rules.proofs.RegrantCases.{Resizes, resizes, Relocates, moves, Regrants, in_place, elsewhere, resize_case, relocate_case, realloc_case}
use Rattle.rules.proofs.PictureCalls.{Draws, draws, write_case, Takes, takes, read_case}
use Rattle.rules.proofs.OldBlock.{still_there}
use Rattle.ledger.specs.Events.{call}
use Rattle.ledger.specs.Ledger.{Ledger, pictured_blocks, renews, grants, frees, regrants, effect, noted, if_done, ledger_after, Done}
use Rattle.ledger.specs.Holders.{renamed}
use Rattle.ledger.proofs.Agreeing.{Agrees}
use Rattle.ledger.proofs.PicturesRead.{said_agrees}
use Rattle.ledger.proofs.Going.{Goes, unchanged_goes, written_goes, freed_goes, stays_goes, granted_goes}
use Rattle.ledger.proofs.Moves.{moved_goes}

-- the blocks go on where a call on the words `a` came to this outcome
abbrev CallGoes : ℕ → List ℕ → Ledger → Call → Outcome → Type 0
CallGoes n a ledger c outcome =
    Goes n a ledger (λ b. if_done outcome.answer (renamed (effect (call c)) outcome.answer b) b) outcome.words
    (ledger_after (call c) outcome.answer ledger)

-- how a call goes that came to this outcome: the blocks go on, or it is done and they all end, and others are there
pub data CallNoted (n : ℕ) (a : List ℕ) (ledger : Ledger) (c : Call) (outcome : Outcome) : Type 0 where
  kept : CallGoes n a ledger c outcome → CallNoted n a ledger c outcome
  renewed : Done outcome.answer → (blocks : Ledger) → effect (call c) ≡ renews blocks → Agrees n outcome.words blocks
      → CallNoted n a ledger c outcome

-- a refusal changes nothing, so all depends on what is done
refused_goes : (n : ℕ) (a : List ℕ) (ledger : Ledger) (c : Call) (fields : ℕ) (why : Reason) → Agrees n a ledger
    → CallGoes n a ledger c (record { answer = refusal fields why; words = a })
refused_goes n a ledger c fields why g = rw (ne_eqb (number why) 0 (omega (arith, number_positive why))) (unchanged_goes n a ledger g)

case_goes : {fields : ℕ} {n : ℕ} {a : List ℕ} {ledger : Ledger} {Refuses : Reason → Type 0} {Does : List ℕ → List ℕ → Type 0} {outcome : Outcome}
    (c : Call) → Agrees n a ledger
    → ((values after : List ℕ) → Does values after
    → Goes n a ledger (renamed (effect (call c)) (success values)) after (noted (effect (call c)) (success values) ledger))
    → Case fields a Refuses Does outcome → CallGoes n a ledger c outcome
case_goes {fields} {n} {a} {ledger} c g f (refuses why r) = refused_goes n a ledger c fields why g
case_goes c g f (does {values} {after} d) = f values after d

module _ (n : ℕ) (a : List ℕ) (ledger : Ledger) (g : Agrees n a ledger) where
  needed : (w : ℕ) → LawfulRequest (length a) w → Needed (need w) w
  needed w r = request_needed (length a) w (sound_lawful a g.is_sound) r

  start_goes : (values after : List ℕ) → Restarts a values after → Goes n a ledger (λ b. b) after []
  start_goes values after (restarts l) = written_goes n a ledger (λ b. b) _ [] g.long (whole_lawful a l) refl (λ b. refl)

  alloc_goes : (w : ℕ) (values after : List ℕ) → Allots a w values after → Goes n a ledger (λ b. b) after (noted (grants w) (success values) ledger)
  alloc_goes w values after (allots e r pre s post (same, enough)) = granted_goes n a ledger g pre s post (need w) w same (needed w r) enough

  free_goes : (b : ℕ) (values after : List ℕ) → Frees a b values after → Goes n a ledger (λ c. c) after (noted (frees b) (success values) ledger)
  free_goes b values after (frees e pre s asked post is) = freed_goes n a ledger g b pre s asked post is

  -- a call that answers the same block renames none
  same_name : (b c : ℕ) → cond (eqb c b) b c ≡ c
  same_name b c = go (eqb c b) refl
    where
      go : (same : Bool) → eqb c b ≡ same → cond same b c ≡ c
      go true q = sym (eqb-true c b q)
      go false q = refl

  resize_goes : (b w : ℕ) (values after : List ℕ) → Resizes a b w values after
      → Goes n a ledger (renamed (regrants b w) (success values)) after (noted (regrants b w) (success values) ledger)
  resize_goes b w values after (resizes e r pre s asked post is keep k) =
      stays_goes n a ledger g b pre s asked post (need w) w keep (renamed (regrants b w) (success values)) is (needed w r) k (same_name b)

  relocate_goes : (b w : ℕ) (values after : List ℕ) → Relocates a b w values after
      → Goes n a ledger (renamed (regrants b w) (success values)) after (noted (regrants b w) (success values) ledger)
  relocate_goes b w values after (moves e r pre s asked post is before t behind fit block at_is ks same count shorter) =
      rw (same, at_is)
      (moved_goes n a ledger g b pre s asked post is before t behind (need w) w fit.0 (needed w r) fit.1 count shorter
      (still_there a (need w) w pre s asked post before t behind b _ count e (needed w r) is fit (omega arith) refl))

  realloc_goes : (b w : ℕ) (values after : List ℕ) → Regrants a b w values after
      → Goes n a ledger (renamed (regrants b w) (success values)) after (noted (regrants b w) (success values) ledger)
  realloc_goes b w values after (in_place d) = resize_goes b w values after d
  realloc_goes b w values after (elsewhere d) = relocate_goes b w values after d

  size_goes : (b : ℕ) (values after : List ℕ) → Measures a b values after → Goes n a ledger (λ c. c) after ledger
  size_goes b values after (measures e pre s asked post is) = unchanged_goes n a ledger g

  report_goes : (values after : List ℕ) → Reports a values after → Goes n a ledger (λ c. c) after ledger
  report_goes values after (reports e) = unchanged_goes n a ledger g

  write_goes : (text values after : List ℕ) → Draws a text values after → Goes n a ledger (λ c. c) after ledger
  write_goes text values after (draws e room) = unchanged_goes n a ledger g

  -- a picture may have a block of an old one's number, so no old words are said to be kept
  read_noted : (text : List ℕ) {outcome : Outcome} → Case 0 a (ReadRefused text a) (Takes text a) outcome → CallNoted n a ledger (read text) outcome
  read_noted text (refuses why r) = kept (refused_goes n a ledger (read text) 0 why g)
  read_noted text (does (takes ws s e d)) = renewed refl (pictured_blocks (said text)) refl (said_agrees n text ws s (e ∙ g.long) d)

  -- under any policies that are fitting
  module _ (policies : Policies) (fitting : AllFitting policies) where
    pub call_noted : (c : Call) → CallNoted n a ledger c (library_by policies c a)
    call_noted start = kept (case_goes start g start_goes (start_case a))
    call_noted (alloc fit w) = kept (case_goes (alloc fit w) g (alloc_goes w) (alloc_by_case (policies fit) (fitting fit) a w))
    call_noted (free b) = kept (case_goes (free b) g (free_goes b) (free_case a b))
    call_noted (resize b w) = kept (case_goes (resize b w) g (resize_goes b w) (resize_case a b w))
    call_noted (relocate b w) = kept (case_goes (relocate b w) g (relocate_goes b w) (relocate_case a b w))
    call_noted (realloc b w) = kept (case_goes (realloc b w) g (realloc_goes b w) (realloc_case a b w))
    call_noted (size b) = kept (case_goes (size b) g (size_goes b) (size_case a b))
    call_noted (view b) = kept (unchanged_goes n a ledger g)
    call_noted report = kept (case_goes report g report_goes (report_case a))
    call_noted (write text) = kept (case_goes (write text) g (write_goes text) (write_case a text))
    call_noted (read text) = read_noted text (read_case text a)

    -- either way the ledger agrees with the words
    pub call_agrees : (c : Call) → Agrees n (library_by policies c a).words (ledger_after (call c) (library_by policies c a).answer ledger)
    call_agrees c = go (call_noted c)
      where
        go : {outcome : Outcome} → CallNoted n a ledger c outcome → Agrees n outcome.words (ledger_after (call c) outcome.answer ledger)
        go (kept goes) = goes.agrees
        go (renewed z blocks p agrees) = rw (z, p) agrees
