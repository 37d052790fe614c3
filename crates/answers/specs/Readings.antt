-- How the code's answers are read: the documents' code, then the fields in their order.
use Rattle.std.specs.Prelude.{ℕ, List, [], ◌∷◌, Result, Ok, Err}
use Rattle.layout.specs.declared.Reason.{Reason}
use Rattle.rules.specs.Answers.{Answer, success, refusal}
use Rattle.answers.specs.declared.Grant.{Grant}
use Rattle.answers.specs.declared.Sizes.{Sizes}
use Rattle.answers.specs.declared.Counts.{Counts}

-- what the calls answer, as in src/

abbrev pub Finish : Type 0
Finish = Result (Unit {0}) Reason

abbrev pub Granted : Type 0
Granted = Result Grant Reason

abbrev pub Sized : Type 0
Sized = Result Sizes Reason

abbrev pub Reported : Type 0
Reported = Result Counts Reason

abbrev pub Written : Type 0
Written = Result ℕ Reason

-- the fields of each answer that is no refusal

abbrev pub no_fields : Unit {0} → List ℕ
no_fields done = []

abbrev pub grant_fields : Grant → List ℕ
grant_fields it = it.block ∷ it.granted ∷ []

abbrev pub sizes_fields : Sizes → List ℕ
sizes_fields it = it.asked ∷ it.granted ∷ []

abbrev pub counts_fields : Counts → List ℕ
counts_fields it = it.free_words ∷ it.largest ∷ it.live_blocks ∷ it.free_chunks ∷ []

abbrev pub one_field : ℕ → List ℕ
one_field n = n ∷ []

-- an answer whose fields are `values`; a refusal has `count` of them
abbrev pub read : {A : Type 0} → (A → List ℕ) → ℕ → Result A Reason → Answer
read values count (Ok it) = success (values it)
read values count (Err why) = refusal count why

abbrev pub finish_numbers : Finish → Answer
finish_numbers = read no_fields 0

abbrev pub granted_numbers : Granted → Answer
granted_numbers = read grant_fields 2

abbrev pub sized_numbers : Sized → Answer
sized_numbers = read sizes_fields 2

abbrev pub reported_numbers : Reported → Answer
reported_numbers = read counts_fields 4

abbrev pub written_numbers : Written → Answer
written_numbers = read one_field 1
