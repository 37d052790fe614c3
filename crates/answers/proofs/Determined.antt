-- A contract on the numbers leaves no choice: two results that it allows are the same.
use Prim.Native.Nat.{ℕ}
use mathlib.Core.Path.{◌≡◌, sym, ap, ◌∙◌}
use mathlib.Core.List.{List}
use native.Mathlib.Omega.{arith}
use Rattle.layout.specs.Reasons.{number}
use Rattle.layout.specs.declared.Reason.{Reason}
use Rattle.layout.proofs.Reasons.{number_positive, number_injective}
use Rattle.rules.specs.Answers.{Answer, Outcome}
use Rattle.rules.specs.Calls.{Roves}
use Rattle.rules.proofs.Rovers.{roves_once}
use Rattle.answers.specs.Readings.{Finish, Granted, Sized, Reported, Written, read, finish_numbers, granted_numbers, sized_numbers, reported_numbers, written_numbers}
use Rattle.answers.specs.Determined.{Determined}
use Rattle.answers.specs.FieldLaws.{FieldLaws, no_field_laws, grant_laws, sizes_laws, counts_laws, one_field_laws}
use Rattle.answers.specs.declared.Roved.{Roved}
use Rattle.std.specs.Prelude.{Result, Ok, Err}

-- ---- an answer in numbers says which answer it was

same_code : {x y : Answer} → x ≡ y → x.code ≡ y.code
same_code e = ap (λ (r : Answer). r.code) e

same_values : {x y : Answer} → x ≡ y → x.values ≡ y.values
same_values e = ap (λ (r : Answer). r.values) e

success_or_refusal : (why : Reason) → 0 ≡ number why → ⊥
success_or_refusal why e = omega (arith, number_positive why)

-- so where the fields say it, two answers that are read as the same are the same
pub read_injective : {A : Type 0} {values : A → List ℕ} {count : ℕ} → FieldLaws values count
    → (r r' : Result A Reason) → read values count r ≡ read values count r' → r ≡ r'
read_injective laws (Ok it) (Ok other) e = ap Ok (laws.telling it other (same_values e))
read_injective laws (Ok it) (Err why) e = absurd (success_or_refusal why (same_code e))
read_injective laws (Err why) (Ok it) e = absurd (success_or_refusal why (same_code (sym e)))
read_injective laws (Err why) (Err why') e = ap Err (number_injective why why' (same_code e))

pub finish_injective : (r r' : Finish) → finish_numbers r ≡ finish_numbers r' → r ≡ r'
finish_injective = read_injective no_field_laws

pub granted_injective : (r r' : Granted) → granted_numbers r ≡ granted_numbers r' → r ≡ r'
granted_injective = read_injective grant_laws

pub sized_injective : (r r' : Sized) → sized_numbers r ≡ sized_numbers r' → r ≡ r'
sized_injective = read_injective sizes_laws

pub reported_injective : (r r' : Reported) → reported_numbers r ≡ reported_numbers r' → r ≡ r'
reported_injective = read_injective counts_laws

pub written_injective : (r r' : Written) → written_numbers r ≡ written_numbers r' → r ≡ r'
written_injective = read_injective one_field_laws

-- ---- two results, and the words left with each, that give the same outcome

-- two things that are each what is said are the same
pub agree : {A : Type 0} {x y said : A} → x ≡ said → y ≡ said → x ≡ y
agree p q = p ∙ sym q

determined : {A : Type 0} (numbers : A → Answer) → ((r r' : A) → numbers r ≡ numbers r' → r ≡ r') → (outcome : Outcome)
    → Determined numbers outcome
determined numbers injective outcome r r' after after' g g' = (injective r r' (agree g.answers g'.answers), agree g.leaves g'.leaves)

-- so for every call that answers so, whatever its outcome is

pub finish_determined : (outcome : Outcome) → Determined finish_numbers outcome
finish_determined = determined finish_numbers finish_injective

pub granted_determined : (outcome : Outcome) → Determined granted_numbers outcome
granted_determined = determined granted_numbers granted_injective

pub sized_determined : (outcome : Outcome) → Determined sized_numbers outcome
sized_determined = determined sized_numbers sized_injective

pub reported_determined : (outcome : Outcome) → Determined reported_numbers outcome
reported_determined = determined reported_numbers reported_injective

pub written_determined : (outcome : Outcome) → Determined written_numbers outcome
written_determined = determined written_numbers written_injective

-- so for next fit, and the rover with it
pub roved_determined : (a : List ℕ) (rover n : ℕ) (r r' : Roved) (after after' : List ℕ)
    → Roves a rover n (granted_numbers r.granted) after r.rover → Roves a rover n (granted_numbers r'.granted) after' r'.rover
    → (r ≡ r') × (after ≡ after')
roved_determined a rover n r r' after after' g g' =
    let (answers, words, moved) = roves_once g g' in
    let same = granted_injective r.granted r'.granted answers in
    (rw (same, moved), words)
