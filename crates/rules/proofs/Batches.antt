-- What a batch comes to: one record after the other, each as its call made singly.
use Prim.Native.Nat.{ℕ, zero, suc}
use mathlib.Core.Path.{◌≡◌, refl, sym, ap, ◌∙◌}
use mathlib.Core.Logic.{◌≢◌}
use mathlib.Core.Bool.{Bool, true, false, cond}
use mathlib.Core.List.{List, [], ◌∷◌, ◌++◌, map}
use native.Mathlib.Omega.{arith}
use lib.ListN.{length, replicate}
use lib.Dec.{eqb}
use borrow.Author.Tests.{ne_eqb}
use Rattle.layout.specs.Walk.{sound}
use Rattle.layout.specs.Reasons.{number}
use Rattle.layout.specs.declared.Reason.TheVariants.{Frame}
use Rattle.layout.proofs.Reasons.{number_positive, number_injective}
use Rattle.rules.specs.Answers.{Outcome, block_field, granted_field, no_call}
use Rattle.rules.specs.Behaves.{Behaves}
use Rattle.rules.specs.Fits.{first_fit, Policies, policy_of}
use Rattle.rules.specs.Picks.{AllFitting}
use Rattle.rules.specs.Libraries.{Call, start, alloc, free, resize, relocate, realloc, size, view, report, write, read, Library, library_by}
use Rattle.rules.specs.Libraries.{ours}
use Rattle.rules.specs.Causes.{CallRefused, call_fields, WantedRefused, wanted_fields}
use Rattle.rules.specs.Batches.{Wanted, a_call, unknown, wanted, made_singly, served, wanted_in, filled, Batch, batch_by, batch_on}
use Rattle.rules.specs.Batches.{Serves, Fills}
use Rattle.rules.specs.declared.Request.{Request}
use Rattle.rules.specs.declared.Served.{Served}
use Rattle.rules.proofs.Fits.{all_fitting}
use Rattle.rules.proofs.Calls.{start_behaves, alloc_by_behaves, alloc_behaves, free_behaves, resize_behaves, relocate_behaves}
use Rattle.rules.proofs.Calls.{realloc_behaves, size_behaves}
use Rattle.rules.proofs.Calls.{report_behaves, write_behaves, read_behaves}

-- ---- one request

-- a kind that is none of the six asks for nothing that is known
pub unknown_kind : (kind b n : ℕ) → kind ≢ 1 → kind ≢ 2 → kind ≢ 3 → kind ≢ 4 → kind ≢ 5 → kind ≢ 6 → wanted kind b n ≡ unknown
unfolding wanted
unknown_kind kind b n n1 n2 n3 n4 n5 n6 =
    simp (ne_eqb kind 1 n1, ne_eqb kind 2 n2, ne_eqb kind 3 n3, ne_eqb kind 4 n4, ne_eqb kind 5 n5, ne_eqb kind 6 n6)

-- what a record asks, by its three numbers
abbrev pub asking : Request → ℕ × ℕ × ℕ
asking r = (r.kind, r.b, r.n)

-- ---- the promises leave no choice

pub serves_once : {outcome : Outcome} {to to' : Served} {words words' : List ℕ} → Serves outcome to words → Serves outcome to' words'
    → (to ≡ to') × (words ≡ words')
serves_once g g' = (g.answers ∙ sym g'.answers, g.leaves ∙ sym g'.leaves)

pub fills_once : {batch : Batch} {records records' : List Request} {words words' : List ℕ} → Fills batch records words
    → Fills batch records' words' → (records ≡ records') × (words ≡ words')
fills_once g g' = (g.answers ∙ sym g'.answers, g.leaves ∙ sym g'.leaves)

-- ---- a batch, by any library

module _ (library : Library) where
  -- the empty batch changes nothing
  pub batch_none : (a : List ℕ) → batch_by library a [] ≡ record { records = []; words = a }
  unfolding batch_by
  batch_none a = refl

  -- the first record is answered as its call made singly, and the others on the words that this leaves
  pub batch_more : (a : List ℕ) (r : Request) (rs : List Request)
      → let outcome = made_singly library (wanted_in r) a in
      let rest = batch_by library outcome.words rs in
      batch_by library a (r ∷ rs) ≡ record { records = filled r (served outcome.answer) ∷ rest.records; words = rest.words }
  unfolding batch_by
  batch_more a r rs = refl

  -- a batch of one is the call
  pub batch_one : (a : List ℕ) (r : Request)
      → let outcome = made_singly library (wanted_in r) a in
      batch_by library a (r ∷ []) ≡ record { records = filled r (served outcome.answer) ∷ []; words = outcome.words }
  unfolding batch_by
  batch_one a r = refl

  -- a batch of two lists is the one, and then the other
  pub batch_both : (a : List ℕ) (rs ss : List Request)
      → let first = batch_by library a rs in
      let second = batch_by library first.words ss in
      batch_by library a (rs ++ ss) ≡ record { records = first.records ++ second.records; words = second.words }
  unfolding batch_by
  batch_both a [] ss = refl
  batch_both a (r ∷ rs) ss =
      let outcome = made_singly library (wanted_in r) a in
      ap (λ (b : Batch). record { records = filled r (served outcome.answer) ∷ b.records; words = b.words }) (batch_both outcome.words rs ss)

  -- the records stay as many, and what they ask stays
  pub batch_asks : (a : List ℕ) (rs : List Request) → map asking (batch_by library a rs).records ≡ map asking rs
  unfolding batch_by
  batch_asks a [] = refl
  batch_asks a (r ∷ rs) = ap (λ (l : List (ℕ × ℕ × ℕ)). asking r ∷ l) (batch_asks (made_singly library (wanted_in r) a).words rs)

-- ---- our calls, under any policies that are fitting

module _ (policies : Policies) (fitting : AllFitting policies) (a : List ℕ) where
  view_behaves : (b : ℕ) → Behaves 0 a (λ why. ⊥) (library_by policies (view b) a)
  view_behaves b =
      record {
        refused = λ why. (λ e. absurd (omega (arith, number_positive why)), absurd);
        done = (λ z why h. h, λ h. refl);
        unchanged = λ n. refl;
        zeros = λ n. absurd (n refl);
        same_length = refl;
        still_sound = λ e. e;
      }

  unknown_behaves : Behaves 0 a (λ why. why ≡ Frame) (no_call a)
  unknown_behaves =
      record {
        refused = λ why. (λ e. number_injective why Frame (sym e), λ e. ap number (sym e));
        done = (λ z. absurd (omega (arith, number_positive Frame)), λ h. absurd (h Frame refl));
        unchanged = λ n. refl;
        zeros = λ n. refl;
        same_length = refl;
        still_sound = λ e. e;
      }

  -- every call behaves
  pub call_behaves : (c : Call) → Behaves (call_fields c) a (CallRefused c a) (library_by policies c a)
  call_behaves start = start_behaves a
  call_behaves (alloc fit w) = alloc_by_behaves a (policies fit) (fitting fit) w
  call_behaves (free b) = free_behaves a b
  call_behaves (resize b w) = resize_behaves a b w
  call_behaves (relocate b w) = relocate_behaves a b w
  call_behaves (realloc b w) = realloc_behaves a b w
  call_behaves (size b) = size_behaves a b
  call_behaves (view b) = view_behaves b
  call_behaves report = report_behaves a
  call_behaves (write text) = write_behaves a text
  call_behaves (read text) = read_behaves a text

  -- a request behaves as its call does; one of an unknown kind is refused with Frame, whatever the words are
  pub wanted_behaves : (w : Wanted) → Behaves (wanted_fields w) a (WantedRefused w a) (made_singly (library_by policies) w a)
  wanted_behaves (a_call c) = call_behaves c
  wanted_behaves unknown = unknown_behaves

  -- what a refused request leaves: the words as they were, and 0 in the record for block and granted words
  pub refused_request : (w : Wanted)
      → let outcome = made_singly (library_by policies) w a in
      outcome.answer.code ≢ 0 → (outcome.words ≡ a) × ((served outcome.answer).block ≡ 0) × ((served outcome.answer).granted ≡ 0)
  refused_request w n =
      let g = wanted_behaves w in
      (g.unchanged n, ap block_field (g.zeros n) ∙ no_block (wanted_fields w), ap granted_field (g.zeros n) ∙ none_granted (wanted_fields w))
    where
      no_block : (fields : ℕ) → block_field (replicate fields 0) ≡ 0
      no_block zero = refl
      no_block (suc zero) = refl
      no_block (suc (suc fields)) = refl

      none_granted : (fields : ℕ) → granted_field (replicate fields 0) ≡ 0
      none_granted zero = refl
      none_granted (suc zero) = refl
      none_granted (suc (suc fields)) = refl

-- a request is refused with Frame, on whatever words, only if its kind is unknown
pub only_unknown : (kind b n : ℕ) (a : List ℕ) → (made_singly ours (wanted kind b n) a).answer.code ≡ number Frame → wanted kind b n ≡ unknown
unfolding wanted
only_unknown kind b n a = go (eqb kind 1) (eqb kind 2) (eqb kind 3) (eqb kind 4) (eqb kind 5) (eqb kind 6)
  where
    go : (alloc? free? realloc? resize? relocate? size? : Bool)
        → let w =
        cond alloc? (a_call (alloc first_fit n))
        (cond free? (a_call (free b))
        (cond realloc? (a_call (realloc b n))
        (cond resize? (a_call (resize b n)) (cond relocate? (a_call (relocate b n)) (cond size? (a_call (size b)) unknown)))))
        in
        (made_singly ours w a).answer.code ≡ number Frame → w ≡ unknown
    go true _ _ _ _ _ e = absurd (((alloc_behaves a n).refused Frame).0 e)
    go false true _ _ _ _ e = absurd (((free_behaves a b).refused Frame).0 e)
    go false false true _ _ _ e = absurd (((realloc_behaves a b n).refused Frame).0 e)
    go false false false true _ _ e = absurd (((resize_behaves a b n).refused Frame).0 e)
    go false false false false true _ e = absurd (((relocate_behaves a b n).refused Frame).0 e)
    go false false false false false true e = absurd (((size_behaves a b).refused Frame).0 e)
    go false false false false false false e = refl

-- a record that is refused has its code, and 0 for block and granted words; the others are answered as if it were not
-- there
pub refused_record : (a : List ℕ) (r : Request) (rs : List Request)
    → let code = (made_singly ours (wanted_in r) a).answer.code in
    let rest = batch_on a rs in
    code ≢ 0
    → batch_on a (r ∷ rs) ≡ record { records = filled r (record { code = code; block = 0; granted = 0 }) ∷ rest.records; words = rest.words }
refused_record a r rs n =
    let left = refused_request policy_of all_fitting a (wanted_in r) n in
    batch_more ours a r rs ∙ rw (left.0, left.1, left.2) refl

-- a batch keeps the number of words, and a sound arena sound
pub batch_length : (a : List ℕ) (rs : List Request) → length (batch_on a rs).words ≡ length a
batch_length a [] = ap (λ (batch : Batch). length batch.words) (batch_none ours a)
batch_length a (r ∷ rs) =
    ap (λ (batch : Batch). length batch.words) (batch_more ours a r rs)
    ∙ batch_length (made_singly ours (wanted_in r) a).words rs
    ∙ (wanted_behaves policy_of all_fitting a (wanted_in r)).same_length

pub batch_sound : (a : List ℕ) (rs : List Request) → sound a ≡ true → sound (batch_on a rs).words ≡ true
batch_sound a [] s = rw (batch_none ours a) s
batch_sound a (r ∷ rs) s =
    rw (batch_more ours a r rs)
    (batch_sound (made_singly ours (wanted_in r) a).words rs ((wanted_behaves policy_of all_fitting a (wanted_in r)).still_sound s))
