-- What a call answers, in the documents' numbers, and what it leaves.
use Rattle.std.specs.Prelude.{ℕ, ◌≡◌, List, get_or, replicate}
use Rattle.layout.specs.declared.Reason.{Reason}
use Rattle.layout.specs.declared.Reason.TheVariants.{Frame}
use Rattle.layout.specs.Reasons.{Gate}
use Rattle.std.specs.Prelude.{Ok, Err}
use Rattle.layout.specs.Reasons.{number}

-- the code, then the fields in their order
pub record Answer : Type 0 where
  pub code : ℕ
  pub values : List ℕ

abbrev pub success : List ℕ → Answer
success vs = record { code = 0; values = vs }

-- a refusal's code is the reason's number, and its fields are 0
abbrev pub refusal : ℕ → Reason → Answer
refusal fields why = record { code = number why; values = replicate fields 0 }

-- the first two of an answer's fields, 0 where there are none: a block and its granted words where a call grants, the
-- words asked for and those granted where it is size
abbrev pub block_field : List ℕ → ℕ
block_field values = get_or values 0 0

abbrev pub granted_field : List ℕ → ℕ
granted_field values = get_or values 1 0

-- what a report's fields tell, 0 for what they do not: free words, the largest request that would be granted, live
-- blocks, free chunks
abbrev pub free_words_in : Answer → ℕ
free_words_in answer = get_or answer.values 0 0

abbrev pub largest_request_in : Answer → ℕ
largest_request_in answer = get_or answer.values 1 0

abbrev pub live_blocks_in : Answer → ℕ
live_blocks_in answer = get_or answer.values 2 0

abbrev pub free_chunks_in : Answer → ℕ
free_chunks_in answer = get_or answer.values 3 0

-- the answer, and the words of the arena afterwards
pub record Outcome : Type 0 where
  pub answer : Answer
  pub words : List ℕ

-- a call is refused, or done with these fields and these words
pub data Result : Type 0 where
  refused : Reason → Result
  done : List ℕ → List ℕ → Result

-- a refusal leaves the words `a` as they were
abbrev pub settle : ℕ → List ℕ → Result → Outcome
settle fields a (refused why) = record { answer = refusal fields why; words = a }
settle fields a (done values after) = record { answer = success values; words = after }

-- what asks for no call is refused with Frame, and changes nothing
abbrev pub no_call : List ℕ → Outcome
no_call a = settle 0 a (refused Frame)

-- a gate that is shut refuses before anything else is looked at
abbrev pub pass : Gate → Result → Result
pass (Ok _) result = result
pass (Err why) result = refused why

-- the promise of a call: it answers, and leaves the words, as the outcome says
pub record Gives (outcome : Outcome) (answer : Answer) (words : List ℕ) : Type 0 where
  pub answers : answer ≡ outcome.answer
  pub leaves : words ≡ outcome.words
