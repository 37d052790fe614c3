-- What a trial comes to: the numbers of the answer, the words that are handed back, and the arena afterwards.
use Rattle.std.specs.Prelude.{ℕ, ◌≡◌, ◌≢◌, Bool, cond, ◌||◌, List, [], ◌∷◌, ◌++◌, length, get_or, eqb}
use Rattle.rules.specs.Answers.{Answer, Outcome, success, no_call}
use Rattle.rules.specs.Calls.{start_on, alloc_on, alloc_best_on, alloc_next_on, rover_after, free_on, resize_on, relocate_on, realloc_on, report_on, size_on}
use Rattle.rules.specs.Calls.{view_on}
use Rattle.answers.specs.Padded.{padded}
use Rattle.spelling.specs.Copies.{Begins}
use Rattle.trials.specs.declared.replies.Reply.{Reply}

-- ---- the calls that have an answer

-- the answer of next fit with the rover afterwards as one field more
abbrev pub with_rover : Answer → ℕ → Answer
with_rover answer rover = record { code = answer.code; values = answer.values ++ rover ∷ [] }

abbrev pub next_outcome : List ℕ → ℕ → ℕ → Outcome
next_outcome a rover n =
    let outcome = alloc_next_on a rover n in
    record { answer = with_rover outcome.answer (rover_after a rover n); words = outcome.words }

-- what call number `call` comes to, on block `b`, or with the rover there, or for `n` words; 7 and 8 are the views,
-- below
unfoldable pub outcome_of : ℕ → ℕ → ℕ → List ℕ → Outcome
outcome_of call b n a =
    cond (eqb call 1) (start_on a)
    (cond (eqb call 2) (alloc_on a n)
    (cond (eqb call 3) (free_on a b)
    (cond (eqb call 4) (realloc_on a b n)
    (cond (eqb call 5) (report_on a)
    (cond (eqb call 6) (size_on a b)
    (cond (eqb call 9) (resize_on a b n)
    (cond (eqb call 10) (relocate_on a b n)
    (cond (eqb call 11) (alloc_best_on a n)
    (cond (eqb call 12) (next_outcome a b n)
    (no_call a))))))))))

-- ---- the calls that hand words back

-- the promise of `overwrite`: what view_mut hands back is copied, and the arena keeps its length
pub record Overwrites (a : List ℕ) (b count : ℕ) (copy after : List ℕ) : Type 0 where
  pub hands : Begins copy count (view_on a b)
  pub keeps : length after ≡ length a

-- ---- all calls

-- 7 is view, 8 is view_mut
abbrev pub is_view : ℕ → Bool
is_view call = eqb call 7 || eqb call 8

-- the answer to a trial: a view has code 0 and no fields
abbrev pub answer_to : ℕ → ℕ → ℕ → List ℕ → Answer
answer_to call b n a = cond (is_view call) (success []) (outcome_of call b n a).answer

-- the words that a trial hands back
abbrev pub part_of : ℕ → ℕ → List ℕ → List ℕ
part_of call b a = cond (is_view call) (view_on a b) []

-- the words after a trial: a view leaves them as they were. (Those that are stored through a view_mut are not spoken
-- of.)
abbrev pub words_after : ℕ → ℕ → ℕ → List ℕ → List ℕ
words_after call b n a = cond (eqb call 7) a (outcome_of call b n a).words

-- the promise of a reply to a trial on the words `a`. Of the arena after a view_mut it says the length alone: no
-- contract can say what it holds once words were stored through the part
pub record Replies (call b n : ℕ) (a : List ℕ) (reply : Reply) (after copy : List ℕ) : Type 0 where
  pub answers : reply.answered ≡ padded (answer_to call b n a)
  pub hands : Begins copy reply.count (part_of call b a)
  pub keeps : length after ≡ length a
  pub leaves : call ≢ 8 → after ≡ words_after call b n a

-- the numbers with which a reply begins
abbrev pub numbers_of : Reply → List ℕ
numbers_of reply =
    let x = reply.answered in
    x.code ∷ get_or x.fields 0 0 ∷ get_or x.fields 1 0 ∷ get_or x.fields 2 0 ∷ get_or x.fields 3 0 ∷ reply.count ∷ []
