-- A board that lends nothing comes to lend sound arenas only, whatever it is asked: so no reply has code 2, Damaged.
use Prim.Native.Nat.{ℕ}
use mathlib.Core.Path.{◌≡◌, refl, sym, ap, ◌∙◌, subst, subst⁻¹}
use mathlib.Core.Logic.{◌≢◌, ◌⊎◌, inl, inr}
use mathlib.Core.Bool.{Bool, true, false, true≢false}
use mathlib.Core.List.{List, [], ◌∷◌, append-nil}
use native.Mathlib.Omega.{arith}
use lib.Dec.{leb, eqb}
use lib.ListN.{length, take, drop, length-take, drop_of_length-le}
use lib.Seq.{length-take-le, take_all, take_at}
use borrow.Author.Tests.{leb-true, leb-false, eq-eqb, eqb-true, eqb-false}
use Rattle.layout.specs.Numbers.{lawful}
use Rattle.layout.specs.Walk.{sound}
use Rattle.layout.specs.Reasons.{number}
use Rattle.layout.specs.declared.Reason.{Reason}
use Rattle.layout.specs.declared.Reason.TheVariants.{Length, Damaged}
use Rattle.rules.specs.Answers.{Outcome}
use Rattle.rules.specs.Calls.{start_on}
use Rattle.rules.specs.Behaves.{Behaves}
use Rattle.rules.proofs.Starting.{start_sound}
use Rattle.rules.proofs.Calls.{start_behaves, alloc_behaves, free_behaves, realloc_behaves, report_behaves}
use Rattle.digits.specs.Digits.{line_end, number_of}
use Rattle.requests.specs.Requests.{request_of}
use Rattle.requests.specs.LinePlaces.{at_start, onward}
use Rattle.requests.specs.declared.Place.{Place}
use Rattle.requests.specs.declared.Request.{Request}
use Rattle.requests.specs.declared.Request.TheVariants.{Start, Alloc, Free, Realloc, Report, Malformed}
use Rattle.replies.specs.Boards.{Board, lending, lent_of, lent_for, outcome_of, lent_after, with_lent, replied}
use Rattle.lines.specs.Texts.{replied_to}
use Rattle.lines.specs.Pieces.{Hearing, hears, board_of}
use Rattle.lines.specs.Sessions.{Session}
use Rattle.lines.proofs.Sessions.{session_heard}
use Rattle.replies.proofs.Telling.{reply_reads}
use Rattle.replies.proofs.RefusedRequests.{refused_keeps}

-- a board lends nothing, or a sound arena
abbrev pub LendsSound : Board → Type 0
LendsSound board = (board.lent ≡ 0) ⊎ (sound (lent_of board) ≡ true)

-- ---- no request is answered 2 on such a board

not_damaged : (board : Board) → LendsSound board → (lawful (length (lent_of board)) ≡ true) × (sound (lent_of board) ≡ false) → ⊥
not_damaged board (inl none) (l, s) =
    let short : lawful (length (lent_of board)) ≡ false = rw none in
    true≢false (sym l ∙ short)
not_damaged board (inr e) (l, s) = true≢false (sym e ∙ s)

sound_not_damaged : (request : Request) (board : Board) → LendsSound board → (outcome_of request board).answer.code ≢ number Damaged
unfolding outcome_of
sound_not_damaged (Start n) board lends e = omega (arith, ap number (((start_behaves (lent_for n board)).refused Damaged).0 e).0)
sound_not_damaged (Alloc n) board lends e = not_damaged board lends (((alloc_behaves (lent_of board) n).refused Damaged).0 e)
sound_not_damaged (Free b) board lends e = not_damaged board lends (((free_behaves (lent_of board) b).refused Damaged).0 e)
sound_not_damaged (Realloc b n) board lends e = not_damaged board lends (((realloc_behaves (lent_of board) b n).refused Damaged).0 e)
sound_not_damaged Report board lends e = not_damaged board lends (((report_behaves (lent_of board)).refused Damaged).0 e)
sound_not_damaged Malformed board lends e = omega arith

-- ---- a request that is done leaves such a board

-- as many words as stood there before are lent again
lent_again : (board : Board) (n : ℕ) (after : List ℕ) → length after ≡ length (take n board.words) → lent_of (with_lent board n after) ≡ after
lent_again board n after kept = go (leb n (length board.words)) refl
  where
    go : (fits : Bool) → leb n (length board.words) ≡ fits → lent_of (with_lent board n after) ≡ after
    go true e = take_at after (drop n board.words) n (kept ∙ length-take-le n board.words (leb-true n (length board.words) e))
    go false e =
        let more = leb-false n (length board.words) e in
        let few = length-take n board.words in
        rw (drop_of_length-le board.words {i = n} (omega arith), append-nil) (take_all n after (omega arith))

-- a call that is done was made on a sound arena: it would have been refused otherwise
was_sound : (a : List ℕ) → (lawful (length a) ≡ false → ⊥) → ((lawful (length a) ≡ true) × (sound a ≡ false) → ⊥) → sound a ≡ true
was_sound a not_is_short not_damaged = go (lawful (length a)) refl (sound a) refl
  where
    go : (l : Bool) → lawful (length a) ≡ l → (s : Bool) → sound a ≡ s → sound a ≡ true
    go l p true q = q
    go true p false q = absurd (not_damaged (p, q))
    go false p false q = absurd (not_is_short p)

-- a start that is done was lent as many words as an arena has: those that it asked for
was_lawful : (a : List ℕ) → (start_on a).answer.code ≡ 0 → lawful (length a) ≡ true
was_lawful a done = go (lawful (length a)) refl
  where
    go : (l : Bool) → lawful (length a) ≡ l → lawful (length a) ≡ true
    go true e = e
    go false e = absurd (omega (arith, ((start_behaves a).refused Length).1 (refl, e)))

was_lent : (n : ℕ) (board : Board) → lawful (length (lent_for n board)) ≡ true → lent_for n board ≡ take n board.words
was_lent n board l = go (leb n (length board.words)) refl
  where
    go : (fits : Bool) → leb n (length board.words) ≡ fits → lent_for n board ≡ take n board.words
    go true e = rw e
    go false e = absurd (true≢false (sym l ∙ rw e))

-- what a call that is done leaves: as many words as it was lent, and a sound arena
call_leaves : {fields : ℕ} {a : List ℕ} {Refused : Reason → Type 0} {outcome : Outcome} → Behaves fields a Refused outcome
    → (lawful (length a) ≡ false → Refused Length) → ((lawful (length a) ≡ true) × (sound a ≡ false) → Refused Damaged)
    → outcome.answer.code ≡ 0 → (length outcome.words ≡ length a) × (sound outcome.words ≡ true)
call_leaves {a = a} call short damaged done =
    let none = call.done.0 done in
    (call.same_length, call.still_sound (was_sound a (λ h. none Length (short h)) (λ h. none Damaged (damaged h))))

-- and so what a request leaves
done_leaves : (request : Request) (board : Board) → (outcome_of request board).answer.code ≡ 0
    → (length (outcome_of request board).words ≡ length (take (lent_after request board) board.words))
    × (sound (outcome_of request board).words ≡ true)
unfolding outcome_of
done_leaves (Start n) board done =
    let l = was_lawful (lent_for n board) done in
    ((start_behaves (lent_for n board)).same_length ∙ ap length (was_lent n board l), start_sound (lent_for n board) l)
done_leaves (Alloc n) board done = call_leaves (alloc_behaves (lent_of board) n) (λ h. h) (λ h. h) done
done_leaves (Free b) board done = call_leaves (free_behaves (lent_of board) b) (λ h. h) (λ h. h) done
done_leaves (Realloc b n) board done = call_leaves (realloc_behaves (lent_of board) b n) (λ h. h) (λ h. h) done
done_leaves Report board done = call_leaves (report_behaves (lent_of board)) (λ h. h) (λ h. h) done
done_leaves Malformed board done = absurd (omega arith)

done_sound : (request : Request) (board : Board) → (outcome_of request board).answer.code ≡ 0 → sound (lent_of (replied request board).board) ≡ true
unfolding replied
done_sound request board done =
    let leaves = done_leaves request board done in
    rw (eq-eqb _ _ done)
    (ap sound (lent_again board (lent_after request board) (outcome_of request board).words leaves.0) ∙ leaves.1)

-- ---- so does every request, and all that a board hears

reply_lends_sound : (request : Request) (board : Board) → LendsSound board → LendsSound (replied request board).board
reply_lends_sound request board lends = go (eqb (outcome_of request board).answer.code 0) refl
  where
    go : (done : Bool) → eqb (outcome_of request board).answer.code 0 ≡ done → LendsSound (replied request board).board
    go true e = inr (done_sound request board (eqb-true _ _ e))
    go false e = subst⁻¹ LendsSound (refused_keeps request board (eqb-false _ _ e)) lends

lines_lend_sound : (lines : List (List ℕ)) (board : Board) → LendsSound board → LendsSound (replied_to lines board).board
unfolding replied_to
lines_lend_sound [] board lends = lends
lines_lend_sound (line ∷ lines) board lends = lines_lend_sound lines _ (reply_lends_sound (request_of line) board lends)

abbrev HeardSound : List ℕ → Type 0
HeardSound bytes = (place : Place) (board : Board) → LendsSound board → LendsSound (hears place board bytes).board

bytes_lend_sound : (bytes : List ℕ) → HeardSound bytes
unfolding hears
bytes_lend_sound [] place board lends = lends
bytes_lend_sound (b ∷ bytes) place board lends = go (eqb b line_end) refl (bytes_lend_sound bytes)
  where
    go : (ends : Bool) → eqb b line_end ≡ ends → HeardSound bytes → LendsSound (hears place board (b ∷ bytes)).board
    go true e rest = rw (e, hears) (rest at_start _ (reply_lends_sound _ board lends))
    go false e rest = rw (e, hears) (rest (onward place b) board lends)

-- ---- code 2 is never printed

-- a board that lends nothing replies to any lines: whatever is asked then is not answered 2
pub never_damaged : (lines : List (List ℕ)) (board : Board) → board.lent ≡ 0 → (request : Request)
    → (outcome_of request (replied_to lines board).board).answer.code ≢ number Damaged
never_damaged lines board none request = sound_not_damaged request _ (lines_lend_sound lines board (inl none))

-- nor is what is asked after any bytes of a text, wherever in a line they end
pub never_damaged_heard : (bytes : List ℕ) (place : Place) (board : Board) → board.lent ≡ 0 → (request : Request)
    → (outcome_of request (hears place board bytes).board).answer.code ≢ number Damaged
never_damaged_heard bytes place board none request = sound_not_damaged request _ (bytes_lend_sound bytes place board (inl none))

-- so the code's two digits in a reply are never 02
pub damaged_never_printed : (lines : List (List ℕ)) (board : Board) → board.lent ≡ 0 → (request : Request)
    → number_of (take 2 (drop 2 (replied request (replied_to lines board).board).reply)) ≢ number Damaged
damaged_never_printed lines board none request e =
    never_damaged lines board none request (sym (reply_reads request (replied_to lines board).board).code_read ∙ e)

-- nor is a reader's caller, who lends nothing at first, ever answered 2
pub session_never_damaged : {start : List ℕ} {place : Place} {lent : ℕ} {words said text : List ℕ} → Session start place lent words said text
    → (request : Request) → (outcome_of request (board_of words lent)).answer.code ≢ number Damaged
session_never_damaged {start} {text = text} session request =
    subst (λ (h : Hearing). (outcome_of request h.board).answer.code ≢ number Damaged) (session_heard session)
    (never_damaged_heard text at_start (lending start 0) refl request)
