-- Each of the calls that answer behaves: the one theorem that every call has.
use mathlib.Core.Path.{◌≡◌, refl, sym, ap}
use mathlib.Core.Bool.{true}
use mathlib.Core.List.{List}
use Prim.Native.Nat.{ℕ}
use native.Mathlib.Omega.{arith}
use lib.ListN.{length}
use Rattle.layout.specs.Numbers.{need}
use Rattle.layout.specs.Walk.{sound}
use Rattle.layout.specs.Reasons.{number}
use Rattle.layout.specs.declared.Reason.{Reason}
use Rattle.rules.specs.Answers.{Outcome}
use Rattle.rules.specs.Calls.{start_on, alloc_by, alloc_on, alloc_best_on, alloc_next_on, free_on, resize_on, relocate_on, realloc_on, size_on, report_on}
use Rattle.rules.specs.Calls.{write_on, read_on}
use Rattle.rules.specs.Stands.{NoGap}
use Rattle.rules.specs.Causes.{StartRefused, AllocRefused, BlockRefused, ResizeRefused, RelocateRefused, ReallocRefused, ReportRefused}
use Rattle.rules.specs.Causes.{LawfulRequest, WriteRefused, ReadRefused}
use Rattle.rules.specs.Behaves.{Behaves}
use Rattle.rules.specs.Fits.{Policy, first_fit_policy, best_fit_policy, next_fit_policy}
use Rattle.rules.specs.Picks.{Fitting}
use Rattle.rules.proofs.BestFit.{best_fitting}
use Rattle.rules.proofs.Fits.{first_fitting, next_fitting}
use Rattle.rules.proofs.CallCases.{Case, refuses, does, refused_unchanged, refused_zeros, start_case, Allots, alloc_by_case, free_case}
use Rattle.rules.proofs.CallCases.{size_case}
use Rattle.rules.proofs.CallCases.{report_case}
use Rattle.rules.proofs.RegrantCases.{resize_case, relocate_case, realloc_case}
use Rattle.rules.proofs.Given.{refused_for_lem, done_unless, start_gives, alloc_by_gives, free_gives, resize_gives, relocate_gives, realloc_gives}
use Rattle.rules.proofs.Given.{only_last, size_gives, report_gives}
use Rattle.rules.proofs.Keeping.{Kept, kept, same_kept, starts_kept, allots_kept, frees_kept, resizes_kept, relocates_kept, regrants_kept}
use Rattle.rules.proofs.Keeping.{measures_same, reports_same}
use Rattle.rules.proofs.PictureCalls.{write_case, write_gives, writes_same, read_case, read_gives, reads_kept}

-- a call behaves where it gives each reason that is so, and what it does keeps the arena
behaves : {fields : ℕ} {a : List ℕ} {Refuses : Reason → Type 0} {Does : List ℕ → List ℕ → Type 0} {outcome : Outcome}
    → Case fields a Refuses Does outcome
    → ((why : Reason) → Refuses why → outcome.answer.code ≡ number why) → ((values after : List ℕ) → Does values after → Kept a after)
    → Behaves fields a Refuses outcome
behaves case gives keeps =
    let k = kept keeps case in
    record {
      refused = λ why. (refused_for_lem why case, gives why);
      done = done_unless gives case;
      unchanged = refused_unchanged case;
      zeros = refused_zeros case;
      same_length = k.same_length;
      still_sound = k.still_sound;
    }

module _ (a : List ℕ) where
  pub start_behaves : Behaves 0 a (StartRefused a) (start_on a)
  start_behaves = behaves (start_case a) (start_gives a) (starts_kept a)

  -- alloc under any policy that is fitting
  pub alloc_by_behaves : (policy : Policy) → Fitting policy → (n : ℕ) → Behaves 2 a (AllocRefused a n) (alloc_by policy a n)
  alloc_by_behaves policy fitting n = behaves (alloc_by_case policy fitting a n) (alloc_by_gives a policy fitting n) (allots_kept a n)

  -- in a sound arena a lawful request is done wherever there is a gap for it
  pub alloc_by_done : (policy : Policy) → Fitting policy → (n : ℕ) → sound a ≡ true → LawfulRequest (length a) n → (NoGap a (need n) → ⊥)
      → (alloc_by policy a n).answer.code ≡ 0
  alloc_by_done policy fitting n e request gap =
      (alloc_by_behaves policy fitting n).done.1
      (only_last a _ _ _ _ _ e (λ h. h) (λ z. omega arith) (λ m. omega arith) ⊥ (λ h. gap h.1) (λ h. h))

  -- under two fitting policies it is refused in the same cases and for the same reasons
  pub codes_agree : (policy policy' : Policy) → Fitting policy → Fitting policy' → (n : ℕ)
      → (alloc_by policy a n).answer.code ≡ (alloc_by policy' a n).answer.code
  codes_agree policy policy' fitting fitting' n = go (alloc_by_case policy fitting a n) refl
    where
      go : {outcome : Outcome} → Case 2 a (AllocRefused a n) (Allots a n) outcome → alloc_by policy a n ≡ outcome
          → outcome.answer.code ≡ (alloc_by policy' a n).answer.code
      go (refuses why r) is = sym (alloc_by_gives a policy' fitting' n why r)
      go (does d) is =
          let done = ap (λ (outcome : Outcome). outcome.answer.code) is in
          sym ((alloc_by_behaves policy' fitting' n).done.1 ((alloc_by_behaves policy fitting n).done.0 done))

  pub alloc_behaves : (n : ℕ) → Behaves 2 a (AllocRefused a n) (alloc_on a n)
  alloc_behaves = alloc_by_behaves first_fit_policy first_fitting

  pub alloc_best_behaves : (n : ℕ) → Behaves 2 a (AllocRefused a n) (alloc_best_on a n)
  alloc_best_behaves = alloc_by_behaves best_fit_policy best_fitting

  pub alloc_next_behaves : (rover n : ℕ) → Behaves 2 a (AllocRefused a n) (alloc_next_on a rover n)
  alloc_next_behaves rover = alloc_by_behaves (next_fit_policy rover) (next_fitting rover)

  pub free_behaves : (b : ℕ) → Behaves 0 a (BlockRefused a b) (free_on a b)
  free_behaves b = behaves (free_case a b) (free_gives a b) (frees_kept a b)

  pub resize_behaves : (b n : ℕ) → Behaves 2 a (ResizeRefused a b n) (resize_on a b n)
  resize_behaves b n = behaves (resize_case a b n) (resize_gives a b n) (resizes_kept a b n)

  pub relocate_behaves : (b n : ℕ) → Behaves 2 a (RelocateRefused a b n) (relocate_on a b n)
  relocate_behaves b n = behaves (relocate_case a b n) (relocate_gives a b n) (relocates_kept a b n)

  pub realloc_behaves : (b n : ℕ) → Behaves 2 a (ReallocRefused a b n) (realloc_on a b n)
  realloc_behaves b n = behaves (realloc_case a b n) (realloc_gives a b n) (regrants_kept a b n)

  pub size_behaves : (b : ℕ) → Behaves 2 a (BlockRefused a b) (size_on a b)
  size_behaves b = behaves (size_case a b) (size_gives a b) (λ values after d. same_kept a (measures_same a b values after d))

  pub report_behaves : Behaves 4 a (ReportRefused a) (report_on a)
  report_behaves = behaves (report_case a) (report_gives a) (λ values after d. same_kept a (reports_same a values after d))

  pub write_behaves : (text : List ℕ) → Behaves 1 a (WriteRefused a text) (write_on a text)
  write_behaves text =
      behaves (write_case a text) (write_gives a text) (λ values after d. same_kept a (writes_same a text values after d))

  pub read_behaves : (text : List ℕ) → Behaves 0 a (ReadRefused text a) (read_on text a)
  read_behaves text = behaves (read_case text a) (read_gives text a) (reads_kept text a)

  -- size, report and write change nothing, refused or not

  unchanging : {fields : ℕ} {Refuses : Reason → Type 0} {Does : List ℕ → List ℕ → Type 0} {outcome : Outcome} → Case fields a Refuses Does outcome
      → ((values after : List ℕ) → Does values after → after ≡ a) → outcome.words ≡ a
  unchanging (refuses why r) same = refl
  unchanging (does d) same = same _ _ d

  pub size_unchanged : (b : ℕ) → (size_on a b).words ≡ a
  size_unchanged b = unchanging (size_case a b) (measures_same a b)

  pub report_unchanged : (report_on a).words ≡ a
  report_unchanged = unchanging (report_case a) (reports_same a)

  pub write_unchanged : (text : List ℕ) → (write_on a text).words ≡ a
  write_unchanged text = unchanging (write_case a text) (writes_same a text)
