-- Every number of a reply can be read back from its digits.
use Prim.Native.Nat.{ℕ, zero, suc, ◌+◌, ◌*◌, ◌<◌}
use mathlib.Core.Path.{◌≡◌, refl}
use mathlib.Core.List.{List, [], ◌∷◌, ◌++◌}
use native.Mathlib.Omega.{arith}
use lib.ListN.{length, get_or, take, drop}
use Rattle.layout.specs.Bounds.{AllBelow}
use Rattle.rules.specs.Answers.{Answer}
use Rattle.rules.proofs.CallCases.{start_case, alloc_case, free_case, report_case}
use Rattle.rules.proofs.RegrantCases.{realloc_case}
use Rattle.digits.specs.Digits.{line_end, number_of, four_digit_values, two_digit_values}
use Rattle.digits.proofs.Reading.{two_read, four_read}
use Rattle.requests.specs.Requests.{field, kind_of}
use Rattle.requests.specs.declared.Request.{Request}
use Rattle.requests.specs.declared.Request.TheVariants.{Start, Alloc, Free, Realloc, Report, Malformed}
use Rattle.replies.specs.Boards.{Board, fields_text, reply_text, lent_of, lent_for, outcome_of, replied}
use Rattle.replies.proofs.Fitting.{Fits, code_below, start_fits, alloc_fits, free_fits, realloc_fits, report_fits}

-- how many fields a request is answered
abbrev pub fields_of : Request → ℕ
fields_of (Start n) = 0
fields_of (Alloc n) = 2
fields_of (Free b) = 0
fields_of (Realloc b n) = 2
fields_of Report = 4
fields_of Malformed = 0

-- a reply whose numbers are small enough for their digits
pub record Legible (kind : ℕ) (answer : Answer) (reply : List ℕ) : Type 0 where
  pub is : reply ≡ reply_text kind answer
  pub kind_fits : kind < two_digit_values
  pub code_fits : answer.code < two_digit_values
  pub fields_fit : AllBelow four_digit_values answer.values

-- a reply whose digits make its numbers again: two of kind, two of code, four for each field
pub record ReadBack (kind : ℕ) (answer : Answer) (reply : List ℕ) : Type 0 where
  pub kind_read : number_of (take 2 reply) ≡ kind
  pub code_read : number_of (take 2 (drop 2 reply)) ≡ answer.code
  pub field_read : (i : ℕ) → i < length answer.values → field (drop 2 reply) i ≡ get_or answer.values i 0

kind_small : (request : Request) → kind_of request < two_digit_values
kind_small (Start n) = omega arith
kind_small (Alloc n) = omega arith
kind_small (Free b) = omega arith
kind_small (Realloc b n) = omega arith
kind_small Report = omega arith
kind_small Malformed = omega arith

code_small : (request : Request) (board : Board) → (outcome_of request board).answer.code < two_digit_values
unfolding outcome_of
code_small (Start n) board = code_below (start_case (lent_for n board))
code_small (Alloc n) board = code_below (alloc_case (lent_of board) n)
code_small (Free b) board = code_below (free_case (lent_of board) b)
code_small (Realloc b n) board = code_below (realloc_case (lent_of board) b n)
code_small Report board = code_below (report_case (lent_of board))
code_small Malformed board = omega arith

-- an answer has so many fields, and each fits four digits
pub answer_fits : (request : Request) (board : Board) → Fits (fields_of request) (outcome_of request board).answer.values
unfolding outcome_of
answer_fits (Start n) board = start_fits (lent_for n board)
answer_fits (Alloc n) board = alloc_fits (lent_of board) n
answer_fits (Free b) board = free_fits (lent_of board) b
answer_fits (Realloc b n) board = realloc_fits (lent_of board) b n
answer_fits Report board = report_fits (lent_of board)
answer_fits Malformed board = record { count = refl; small = tt }

-- every reply has numbers that fit their digits
pub reply_legible : (request : Request) (board : Board) → Legible (kind_of request) (outcome_of request board).answer (replied request board).reply
unfolding replied
reply_legible request board =
    record { is = refl; kind_fits = kind_small request; code_fits = code_small request board; fields_fit = (answer_fits request board).small }

field_told : (values rest : List ℕ) (i : ℕ) → i < length values → AllBelow four_digit_values values
    → number_of (take 4 (drop (i * 4) (fields_text values ++ rest))) ≡ get_or values i 0
field_told [] rest i less fits = absurd (omega arith)
field_told (v ∷ values) rest zero less fits = four_read v fits.0
field_told (v ∷ values) rest (suc i) less fits =
    let e : suc i * 4 ≡ suc (suc (suc (suc (i * 4)))) = omega arith in rw e (field_told values rest i (omega arith) fits.1)

-- numbers that fit can be read back
pub legible_read : (kind : ℕ) (answer : Answer) (reply : List ℕ) → Legible kind answer reply → ReadBack kind answer reply
unfolding reply_text
legible_read kind answer reply legible =
    rw legible.is
    (record {
      kind_read = two_read kind legible.kind_fits;
      code_read = two_read answer.code legible.code_fits;
      field_read = λ i less.
          let e : 2 + i * 4 ≡ suc (suc (i * 4)) = omega arith in
          rw e (field_told answer.values (line_end ∷ []) i less legible.fields_fit);
    })

-- so every number of every reply can be read back
pub reply_reads : (request : Request) (board : Board) → ReadBack (kind_of request) (outcome_of request board).answer (replied request board).reply
reply_reads request board = legible_read _ _ _ (reply_legible request board)
