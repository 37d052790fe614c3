-- Bytes heard one after the other.
use Prim.Native.Nat.{ℕ, ◌+◌, ◌*◌, ◌/◌, ◌≤◌, min}
use mathlib.Core.Path.{◌≡◌, refl, sym, ap, ◌∙◌, subst, subst⁻¹}
use mathlib.Core.Bool.{Bool, true, false, cond}
use mathlib.Core.List.{List, [], ◌∷◌, ◌++◌, append-nil}
use native.Mathlib.Omega.{arith}
use lib.ListN.{length, take, drop, length-append, length-drop}
use lib.Seq.{sets-eq, take_all}
use lib.Dec.{leb, eqb}
use borrow.Author.Tests.{ne_eqb, leb-true, leb-false}
use Rattle.digits.specs.Digits.{line_end}
use Rattle.digits.specs.Putting.{Puts}
use Rattle.digits.proofs.Putting.{puts_then}
use Rattle.requests.specs.LinePlaces.{at_start, onward, request_at}
use Rattle.requests.specs.declared.Place.{Place}
use Rattle.replies.specs.Boards.{Board, lending, longest_reply, replied}
use Rattle.lines.specs.Pieces.{Hearing, hears, ending, answerable, HearsAll}
use Rattle.replies.specs.Answering.{Answers}
use Rattle.lines.specs.OneByte.{HearsByte, HearsBytes}
use Rattle.lines.specs.declared.Heard.{Heard}
use Rattle.lines.proofs.Cutting.{hears_append}

-- ---- one byte

-- the end of a line: its request is answered
pub end_heard : (place : Place) (on : Board) (words : List ℕ) (lent at : ℕ) (room : List ℕ) (end : ℕ) (text : List ℕ)
    → Answers (replied (request_at place) on) words lent at room end text → HearsByte place on line_end at_start words lent at room end text
unfolding hears
end_heard place on words lent at room end text answers =
    record {
      places = refl;
      answers =
          subst⁻¹ (λ (reply : List ℕ). Answers (record { reply = reply; board = (replied (request_at place) on).board }) words lent at room end text)
          (append-nil (replied (request_at place) on).reply) answers;
    }

-- any other byte: the line goes on
hears_more : (place : Place) (on : Board) (b : ℕ) → (b ≡ line_end → ⊥)
    → hears place on (b ∷ []) ≡ record { replies = []; place = onward place b; board = on }
unfolding hears
hears_more place on b other = rw (ne_eqb b line_end other, hears)

pub more_heard : (place : Place) (words : List ℕ) (lent b at : ℕ) (room : List ℕ) → (b ≡ line_end → ⊥) → lent ≤ length words
    → HearsByte place (lending words lent) b (onward place b) words lent at room at room
more_heard place words lent b at room other fits =
    let more = hears_more place (lending words lent) b other in
    record {
      places = sym (ap (λ (h : Hearing). h.place) more);
      answers =
          subst⁻¹ (λ (h : Hearing). Answers (record { reply = h.replies; board = h.board }) words lent at room at room) more
          (record { stores = refl; lends = refl; puts = record { ends = omega arith; says = refl }; short = omega arith; lendable = fits });
    }

-- ---- a run of bytes

pub none_heard : (from : Place) (words room : List ℕ) (lent : ℕ) → lent ≤ length words
    → HearsBytes from (lending words lent) [] room from lent 0 words room
unfolding hears
none_heard from words room lent fits =
    record { places = refl; lends = refl; stores = refl; puts = record { ends = refl; says = refl }; few = omega arith; lendable = fits }

-- one byte more
pub heard_on : (from : Place) (on : Board) (bytes room : List ℕ) (place : Place) (lent written : ℕ) (words text : List ℕ)
    (b : ℕ) (next : Place) (lent' end : ℕ) (words' text' : List ℕ)
    → HearsBytes from on bytes room place lent written words text → HearsByte place (lending words lent) b next words' lent' written text end text'
    → HearsBytes from on (bytes ++ b ∷ []) room next lent' end words' text'
heard_on from on bytes room place lent written words text b next lent' end words' text' so byte =
    let before = hears from on bytes in
    let known : hears place (lending words lent) (b ∷ []) ≡ hears before.place before.board (b ∷ []) = rw (so.places, so.lends, so.stores) in
    let all = hears_append from on bytes (b ∷ []) in
    let one = byte.answers in
    record {
      places = byte.places ∙ ap (λ (h : Hearing). h.place) known ∙ sym (ap (λ (h : Hearing). h.place) all);
      lends = one.lends ∙ ap (λ (h : Hearing). h.board.lent) known ∙ sym (ap (λ (h : Hearing). h.board.lent) all);
      stores = one.stores ∙ ap (λ (h : Hearing). h.board.words) known ∙ sym (ap (λ (h : Hearing). h.board.words) all);
      puts =
          subst⁻¹ (λ (replies : List ℕ). Puts 0 replies room end text') (ap (λ (h : Hearing). h.replies) all)
          (puts_then 0 written end before.replies _ room text text' so.puts
          (subst (λ (h : Hearing). Puts written h.replies text end text') known one.puts));
      few = omega (arith, so.few, one.puts.ends, one.short, length-append bytes (b ∷ []));
      lendable = one.lendable;
    }

-- ---- all the bytes that can be answered

-- as many as there are, or as there is room for
pub answerable_taken : (piece room : List ℕ) (most : ℕ) → most ≡ min (length piece) (length room / longest_reply)
    → take most piece ≡ answerable piece room
answerable_taken piece room most e = go (leb (length room / longest_reply) (length piece)) refl
  where
    go : (t : Bool) → leb (length room / longest_reply) (length piece) ≡ t → take most piece ≡ answerable piece room
    go true is =
        let l = leb-true (length room / longest_reply) (length piece) is in
        let same : most ≡ length room / longest_reply = omega (arith, e, l) in
        ap (λ (k : ℕ). take k piece) same
    go false is =
        let l = leb-false (length room / longest_reply) (length piece) is in
        let long : length piece ≤ most = omega (arith, e, l) in
        let longer : length piece ≤ length room / longest_reply = omega (arith, l) in
        take_all most piece long ∙ sym (take_all (length room / longest_reply) piece longer)

pub all_heard : (from : Place) (on : Board) (bytes room : List ℕ) (heard : Heard) (words text : List ℕ)
    → heard.taken ≡ length bytes → length bytes * longest_reply ≤ length room
    → HearsBytes from on bytes room heard.place heard.lent heard.written words text → HearsAll from on bytes room heard words text
all_heard from on bytes room heard words text taken roomy so =
    let replies = (hears from on bytes).replies in
    let none : 0 + length replies ≡ length replies = omega arith in
    record {
      takes = taken;
      places = so.places;
      lends = so.lends;
      stores = so.stores;
      lendable = so.lendable;
      counts = so.puts.ends ∙ none;
      says =
          so.puts.says ∙ sets-eq replies room 0 (omega (arith, so.puts.ends, so.few, roomy))
          ∙ ap (λ (k : ℕ). replies ++ drop k room) none;
    }

-- ---- what a reader's caller needs to know

-- where the lent text has room for the longest replies, a piece is heard whole
pub heard_whole : (piece room : List ℕ) → length piece * longest_reply ≤ length room → answerable piece room ≡ piece
heard_whole piece room roomy = take_all (length room / longest_reply) piece (omega (arith, roomy))

-- what ends a line is one byte at most
pub ending_short : (place : Place) → length (ending place) ≤ 1
ending_short place = go (eqb place.digits 0)
  where
    go : (t : Bool) → length {A = ℕ} (cond t [] (line_end ∷ [])) ≤ 1
    go true = omega arith
    go false = omega arith

-- the replies stand inside the lent text
pub written_fits : {from : Place} {on : Board} {bytes room : List ℕ} {heard : Heard} {words text : List ℕ}
    → HearsAll from on bytes room heard words text → length text ≡ length room → heard.written ≤ length text
written_fits {from} {on} {bytes} {room} h kept =
    let replies = (hears from on bytes).replies in
    omega (arith, h.counts, ap length h.says ∙ length-append replies (drop (length replies) room), length-drop (length replies) room, kept)
