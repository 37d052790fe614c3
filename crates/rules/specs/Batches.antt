-- Batches: a list of requests, each a record with room for its answer.
use Rattle.std.specs.Prelude.{ℕ, ◌≡◌, cond, List, [], ◌∷◌, eqb}
use Rattle.rules.specs.Answers.{Answer, Outcome, block_field, granted_field, no_call}
use Rattle.rules.specs.Fits.{first_fit}
use Rattle.rules.specs.Libraries.{Call, alloc, free, realloc, resize, relocate, size, Library, ours}
use Rattle.rules.specs.declared.Request.{Request}
use Rattle.rules.specs.declared.Served.{Served}

-- ---- one request

-- what a record can ask for: a call, or nothing that is known
pub data Wanted : Type 0 where
  a_call : Call → Wanted
  unknown : Wanted

-- what a kind and its two numbers ask for; a number that the call does not take is not looked at
unfoldable pub wanted : (kind b n : ℕ) → Wanted
wanted kind b n =
    cond (eqb kind 1) (a_call (alloc first_fit n))
    (cond (eqb kind 2) (a_call (free b))
    (cond (eqb kind 3) (a_call (realloc b n))
    (cond (eqb kind 4) (a_call (resize b n))
    (cond (eqb kind 5) (a_call (relocate b n))
    (cond (eqb kind 6) (a_call (size b))
    unknown)))))

-- what comes of it on the words `a`: that of the call, made singly; an unknown kind is refused before all else
abbrev pub made_singly : Library → Wanted → List ℕ → Outcome
made_singly library (a_call c) a = library c a
made_singly library unknown a = no_call a

-- an answer, as a record has it
abbrev pub served : Answer → Served
served answer = record { code = answer.code; block = block_field answer.values; granted = granted_field answer.values }

-- what a record asks for
abbrev pub wanted_in : Request → Wanted
wanted_in r = wanted r.kind r.b r.n

-- the record with this answer filled in; what it asks stays
abbrev pub filled : Request → Served → Request
filled r to = record { kind = r.kind; b = r.b; n = r.n; code = to.code; block = to.block; granted = to.granted }

-- ---- one after the other

-- the records after a batch, and the words
pub record Batch : Type 0 where
  pub records : List Request
  pub words : List ℕ

-- each record is answered on the words that those before it left
unfoldable pub batch_by : Library → List ℕ → List Request → Batch
batch_by library a [] = record { records = []; words = a }
batch_by library a (r ∷ rs) =
    let outcome = made_singly library (wanted_in r) a in
    let rest = batch_by library outcome.words rs in
    record { records = filled r (served outcome.answer) ∷ rest.records; words = rest.words }

abbrev pub batch_on : List ℕ → List Request → Batch
batch_on a rs = batch_by ours a rs

-- ---- what the code promises

-- one request: its answer, and the words that it leaves
pub record Serves (outcome : Outcome) (to : Served) (words : List ℕ) : Type 0 where
  pub answers : to ≡ served outcome.answer
  pub leaves : words ≡ outcome.words

-- a batch: the records, and the words that it leaves
pub record Fills (batch : Batch) (records : List Request) (words : List ℕ) : Type 0 where
  pub answers : records ≡ batch.records
  pub leaves : words ≡ batch.words
