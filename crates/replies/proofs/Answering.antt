-- A request answered: what its call on the lent words answered and left, and its reply.
use Prim.Native.Nat.{ℕ, ◌+◌, ◌≤◌, ◌<◌}
use mathlib.Core.Path.{◌≡◌, refl, sym, ap, ◌∙◌, subst⁻¹}
use mathlib.Core.Logic.{◌≢◌}
use mathlib.Core.Bool.{Bool, true, false, cond}
use mathlib.Core.List.{List, [], ◌∷◌, ◌++◌}
use native.Mathlib.Omega.{arith}
use lib.ListN.{length, take, drop, length-append, take-append-drop}
use lib.Dec.{eqb}
use borrow.Author.Tests.{le-leb, lt-leb, eqb-true, eqb-false}
use Rattle.layout.specs.declared.Reason.{Reason}
use Rattle.layout.specs.declared.Reason.TheVariants.{Length}
use Rattle.layout.specs.Reasons.{number}
use Rattle.layout.proofs.Reasons.{number_positive}
use Rattle.rules.specs.Answers.{Answer, success, refusal, Gives}
use Rattle.rules.specs.Calls.{start_on}
use Rattle.rules.proofs.Calls.{start_behaves}
use Rattle.answers.specs.Padded.{padded, answer_in}
use Rattle.answers.specs.declared.Numbers.{Numbers}
use Rattle.answers.proofs.Padded.{padded_told}
use Rattle.digits.specs.Digits.{line_end}
use Rattle.digits.specs.Putting.{Puts}
use Rattle.requests.specs.Requests.{kind_of}
use Rattle.requests.specs.declared.Request.{Request}
use Rattle.requests.specs.declared.Request.TheVariants.{Start, Alloc, Free, Realloc, Report, Malformed}
use Rattle.replies.specs.Boards.{Board, lending, fields_text, reply_text, reply_length, longest_reply, lent_for, outcome_of, lent_after, with_lent}
use Rattle.replies.specs.Boards.{replied}
use Rattle.replies.specs.Answering.{Makes, Answers}
use Rattle.replies.proofs.ReplyTexts.{fields_length}
use Rattle.replies.proofs.Telling.{fields_of, answer_fits}

-- ---- a reply

-- a request is answered four fields at most
few_fields : (request : Request) → fields_of request ≤ 4
few_fields (Start n) = omega arith
few_fields (Alloc n) = omega arith
few_fields (Free b) = omega arith
few_fields (Realloc b n) = omega arith
few_fields Report = omega arith
few_fields Malformed = omega arith

four_at_most : (request : Request) (board : Board) → length (outcome_of request board).answer.values ≤ 4
four_at_most request board = omega (arith, (answer_fits request board).count, few_fields request)

reply_short : (kind : ℕ) (answer : Answer) → length answer.values ≤ 4 → length (reply_text kind answer) ≤ longest_reply
unfolding reply_text
reply_short kind answer few = omega (arith, few, length-append (fields_text answer.values) (line_end ∷ []), fields_length answer.values)

module _ {request : Request} {on : Board} {words : List ℕ} {lent : ℕ} {numbers : Numbers} (m : Makes request on words lent numbers) where
  -- its answer can be put where the longest reply has room
  pub numbers_fit : (at room : ℕ) → at + longest_reply ≤ room
      → (numbers.count ≤ length numbers.fields) × (at + reply_length numbers.count ≤ room)
  numbers_fit at room fits = let few = four_at_most request on in rw m.answers (few, omega (arith, few, fits))

  -- and once it is put there, the request is answered
  pub answered : {at end : ℕ} {room text : List ℕ} → Puts at (reply_text (kind_of request) (answer_in numbers)) room end text
      → Answers (replied request on) words lent at room end text
  unfolding replied
  answered {at} {end} {room} {text} puts =
      let few = four_at_most request on in
      record {
        stores = ap (λ (b : Board). b.words) m.leaves;
        lends = ap (λ (b : Board). b.lent) m.leaves;
        puts = rw (m.answers, padded_told (outcome_of request on).answer few) at puts;
        short = reply_short (kind_of request) (outcome_of request on).answer few;
        lendable = m.lendable;
      }

-- ---- any request

-- one that is done leaves what its call left, one that is refused leaves the board
pub request_made : (request : Request) (on : Board) (words : List ℕ) (lent : ℕ) (after : List ℕ) (answer : Answer) {numbers : Numbers}
    → Gives (outcome_of request on) answer after → numbers ≡ padded answer
    → (answer.code ≡ 0 → lending words lent ≡ with_lent on (lent_after request on) after)
    → (answer.code ≢ 0 → lending words lent ≡ on) → lent ≤ length words
    → Makes request on words lent numbers
unfolding replied
request_made request on words lent after answer gives told done refused fits =
    record { answers = told ∙ ap padded gives.answers; leaves = go (eqb answer.code 0) refl; lendable = fits }
  where
    then : Board
    then = with_lent on (lent_after request on) (outcome_of request on).words

    same : (t : Bool) → eqb answer.code 0 ≡ t → cond (eqb (outcome_of request on).answer.code 0) then on ≡ cond t then on
    same t e = ap (λ (t : Bool). cond t then on) (ap (λ (x : Answer). eqb x.code 0) (sym gives.answers) ∙ e)

    go : (t : Bool) → eqb answer.code 0 ≡ t → lending words lent ≡ (replied request on).board
    go true e = done (eqb-true _ _ e) ∙ ap (with_lent on (lent_after request on)) gives.leaves ∙ sym (same true e)
    go false e = refused (eqb-false _ _ e) ∙ sym (same false e)

-- ---- a call on the lent words

pub lent_made : (request : Request) (words : List ℕ) (lent : ℕ) (after : List ℕ) (answer : Answer) {numbers : Numbers}
    → lent_after request (lending words lent) ≡ lent
    → ((outcome_of request (lending words lent)).answer.code ≢ 0 → (outcome_of request (lending words lent)).words ≡ take lent words)
    → lent ≤ length words → length (after ++ drop lent words) ≡ length words → Gives (outcome_of request (lending words lent)) answer after
    → numbers ≡ padded answer → Makes request (lending words lent) (after ++ drop lent words) lent numbers
lent_made request words lent after answer stays keeps fits kept gives told =
    request_made request (lending words lent) (after ++ drop lent words) lent after answer gives told
    (λ is. ap (λ (n : ℕ). with_lent (lending words lent) n after) (sym stays))
    (λ not.
    let unchanged = keeps (λ none. not (ap (λ (x : Answer). x.code) gives.answers ∙ none)) in
    ap (λ (a : List ℕ). lending (a ++ drop lent words) lent) (gives.leaves ∙ unchanged)
    ∙ ap (λ (a : List ℕ). lending a lent) (take-append-drop lent words))
    (omega (arith, fits, kept))

-- ---- a start

-- a refusal is not done
refusal_not_done : (why : Reason) {A : Type 0} → number why ≡ 0 → A
refusal_not_done why none = absurd (omega (arith, number_positive why, none))

-- the buffer has not as many words: none are lent
pub start_lends_none : (words : List ℕ) (n lent : ℕ) {numbers : Numbers} → length words < n → lent ≤ length words
    → numbers ≡ padded (refusal 0 Length) → Makes (Start n) (lending words lent) words lent numbers
unfolding outcome_of start_on
start_lends_none words n lent more fits told =
    let none : lent_for n (lending words lent) ≡ [] = ap (λ (t : Bool). cond t (take n words) []) (lt-leb _ _ more) in
    request_made (Start n) (lending words lent) words lent [] (refusal 0 Length)
    (subst⁻¹ (λ (a : List ℕ). Gives (start_on a) (refusal 0 Length) []) none (record { answers = refl; leaves = refl }))
    told (refusal_not_done Length) (λ not. refl) fits

-- the first `n` words are lent for it
lent_for_lem : (words : List ℕ) (n lent : ℕ) (answer : Answer) (after : List ℕ) → n ≤ length words → Gives (start_on (take n words)) answer after
    → Gives (outcome_of (Start n) (lending words lent)) answer after
unfolding outcome_of
lent_for_lem words n lent answer after enough gives =
    subst⁻¹ (λ (a : List ℕ). Gives (start_on a) answer after) (ap (λ (t : Bool). cond t (take n words) []) (le-leb _ _ enough)) gives

-- the start is refused: the words are as they were
pub start_lends_refused : (words : List ℕ) (n lent : ℕ) (why : Reason) (after : List ℕ) {numbers : Numbers} → n ≤ length words → lent ≤ length words
    → Gives (start_on (take n words)) (refusal 0 why) after → numbers ≡ padded (refusal 0 why)
    → Makes (Start n) (lending words lent) (after ++ drop n words) lent numbers
start_lends_refused words n lent why after enough fits gives told =
    let some : (start_on (take n words)).answer.code ≢ 0 = λ none. refusal_not_done why (ap (λ (x : Answer). x.code) gives.answers ∙ none) in
    let same : after ++ drop n words ≡ words
    = ap (λ (a : List ℕ). a ++ drop n words) (gives.leaves ∙ (start_behaves (take n words)).unchanged some) ∙ take-append-drop n words in
    request_made (Start n) (lending words lent) (after ++ drop n words) lent after (refusal 0 why)
    (lent_for_lem words n lent _ _ enough gives) told (refusal_not_done why) (λ not. ap (λ (a : List ℕ). lending a lent) same)
    (omega (arith, fits, ap length same))

-- it is done: they are lent from now on
pub start_lends : (words : List ℕ) (n lent : ℕ) (after : List ℕ) {numbers : Numbers} → n ≤ length words → length (after ++ drop n words) ≡ length words
    → Gives (start_on (take n words)) (success []) after → numbers ≡ padded (success [])
    → Makes (Start n) (lending words lent) (after ++ drop n words) n numbers
start_lends words n lent after enough kept gives told =
    request_made (Start n) (lending words lent) (after ++ drop n words) n after (success [])
    (lent_for_lem words n lent _ _ enough gives) told (λ is. refl) (λ not. absurd (not refl)) (omega (arith, enough, kept))
