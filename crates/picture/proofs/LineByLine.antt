-- A picture that is written line by line.
use Prim.Native.Nat.{ℕ, ◌+◌, ◌-◌, ◌≤◌, ◌<◌}
use mathlib.Core.Path.{◌≡◌, refl, sym, ap, ◌∙◌}
use mathlib.Core.List.{List, [], ◌∷◌, ◌++◌, append_assoc, append-nil}
use native.Mathlib.Omega.{arith}
use lib.ListN.{length, length-append}
use lib.Seq.{take_at, drop_at}
use borrow.Author.Tests.{lt-leb, le-leb}
use Rattle.layout.specs.Numbers.{greatest_length}
use Rattle.layout.specs.Reasons.{number, Gate, arena_gate}
use Rattle.layout.proofs.Round.{sound_chunks}
use Rattle.rules.proofs.Gates.{gate_open}
use Rattle.std.specs.Prelude.{Ok, Err}
use Rattle.layout.specs.declared.Reason.{Reason}
use Rattle.layout.specs.declared.Reason.TheVariants.{TextRoom}
use Rattle.layout.proofs.Reasons.{number_positive}
use Rattle.digits.specs.Putting.{Puts}
use Rattle.digits.proofs.Putting.{puts_then, put_front, put_length}
use Rattle.rules.specs.Answers.{success, refusal}
use Rattle.rules.specs.Pictures.{frame_words, size_line, frame, frames_from, frames_for, picture_of, picture_length, line_length}
use Rattle.rules.specs.Calls.{write_on}
use Rattle.rules.proofs.Pictures.{frames_length, picture_length_lem}
use Rattle.rules.proofs.Frames.{NextFrame, frames_next}
use Rattle.rules.proofs.PictureCalls.{text_unchanged, text_filled}
use Rattle.picture.specs.Writing.{Writes}

-- the text, once `room`: what was put behind its first `start` bytes, and the frames of the words `rest`, whose first
-- has index `i`, are the frames of all words
pub record Drawing (words room : List ℕ) (start : ℕ) (text : List ℕ) (at i : ℕ) (rest : List ℕ) : Type 0 where
  pub front : List ℕ
  pub put : Puts start front room at text
  pub left : front ++ frames_from (frames_for (length rest)) i rest ≡ frames_from (frames_for (length words)) 0 words

-- only behind a full frame more may follow
numbered : (i count : ℕ) (rest : List ℕ) → (0 < length rest → count ≡ frame_words)
    → frames_from (frames_for (length rest)) (i + count) rest ≡ frames_from (frames_for (length rest)) (i + frame_words) rest
unfolding frames_from
numbered i count [] full = refl
numbered i count (w ∷ rest) full = rw (full (omega arith))

-- a frame, and those of the words behind it
frames_split : (part rest : List ℕ) (i : ℕ) → NextFrame (length (part ++ rest)) (length part)
    → frames_from (frames_for (length (part ++ rest))) i (part ++ rest) ≡ frame i part ++ frames_from (frames_for (length rest)) (i + frame_words) rest
frames_split part rest i next =
    let long : length (part ++ rest) ≡ length part + length rest = length-append part rest in
    let behind : length (part ++ rest) - length part ≡ length rest = omega arith in
    frames_next (part ++ rest) i (length part) next
    ∙ rw (behind, take_at part rest (length part) refl, drop_at part rest (length part) refl)
    (ap (λ (ls : List ℕ). frame i part ++ ls) (numbered i (length part) rest (λ some. omega (arith, next.1))))

module _ (words room : List ℕ) (start : ℕ) where
  module _ {text rest : List ℕ} {at i : ℕ} (d : Drawing words room start text at i rest) where
    -- there is room for the next frame
    pub drawing_room : (part left : List ℕ) → rest ≡ part ++ left → 0 < length rest
        → start + length (frames_from (frames_for (length words)) 0 words) ≤ length room → at + line_length (length part) ≤ length text
    drawing_room part left e some fits =
        let frames = frames_from (frames_for (length rest)) i rest in
        omega (
          arith,
          frames_length (frames_for (length rest)) i rest refl,
          ap length e,
          length-append part left,
          put_length d.put,
          d.put.ends,
          length-append d.front frames,
          ap length d.left,
        )

    pub drawing_next : (part left : List ℕ) {next : ℕ} {after : List ℕ} → rest ≡ part ++ left → NextFrame (length rest) (length part)
        → Puts at (frame i part) text next after → Drawing words room start after next (i + frame_words) left
    drawing_next part left {next} {after} e is p =
        let line = frame i part in
        let frames = frames_from (frames_for (length left)) (i + frame_words) left in
        let split : frames_from (frames_for (length rest)) i rest ≡ line ++ frames = rw e (frames_split part left i (rw e at is)) in
        record {
          front = d.front ++ line;
          put = puts_then start at next d.front line room text after d.put p;
          left = append_assoc d.front line frames ∙ ap (λ (bs : List ℕ). d.front ++ bs) (sym split) ∙ d.left;
        }

    -- behind the first line, all frames make the picture
    pub drawing_ends : {begun : List ℕ} → length rest ≡ 0 → Puts 0 (size_line (length words)) begun start room → Puts 0 (picture_of words) begun at text
    unfolding frames_from picture_of
    drawing_ends {begun} none first =
        let whole : d.front ++ [] ≡ frames_from (frames_for (length words)) 0 words = rw none at d.left in
        let frames : Puts start (frames_from (frames_for (length words)) 0 words) room at text = rw (← whole, append-nil) d.put in
        puts_then 0 start at (size_line (length words)) (frames_from (frames_for (length words)) 0 words) begun room text first frames

-- a picture has room where its frames have it behind the first line
pub frames_room : (words : List ℕ) (start : ℕ) → start ≡ line_length 0 → start + length (frames_from (frames_for (length words)) 0 words) ≡ length (picture_of words)
frames_room words start e = omega (arith, picture_length_lem words, frames_length (frames_for (length words)) 0 words refl)

-- ---- what comes of that

-- an arena is not too long
pub open_length : (a : List ℕ) (gate : Gate) → gate ≡ arena_gate a → gate ≡ Ok tt → length a ≤ greatest_length
open_length a gate checked opens = (sound_chunks a (gate_open a (sym opens ∙ checked))).law.most

module _ (a text : List ℕ) where
  pub writes_shut : (why : Reason) → Err why ≡ arena_gate a → Writes a text (refusal 1 why) text
  unfolding write_on
  writes_shut why shut =
      let code : (write_on a text).answer.code ≡ number why = rw (← shut) in
      record {
        gives = rw (← shut) (record { answers = refl; leaves = refl });
        fills = sym (text_unchanged a text (λ z. omega (arith, number_positive why)));
      }

  module _ (opens : Ok tt ≡ arena_gate a) where
    pub writes_short : length text < picture_length (length a) → Writes a text (refusal 1 TextRoom) text
    unfolding write_on
    writes_short short =
        let less = lt-leb (length (picture_of a)) (length text) (omega (arith, picture_length_lem a)) in
        let code : (write_on a text).answer.code ≡ number TextRoom = rw (← opens, less) in
        record {
          gives = rw (← opens, less) (record { answers = refl; leaves = refl });
          fills = sym (text_unchanged a text (λ z. omega arith));
        }

    pub writes_put : {end : ℕ} {after : List ℕ} → picture_length (length a) ≤ length text → Puts 0 (picture_of a) text end after
        → Writes a text (success (end ∷ [])) after
    unfolding write_on
    writes_put {end} {after} room put =
        let fits : length (picture_of a) ≤ length text = omega (arith, picture_length_lem a) in
        let enough = le-leb (length (picture_of a)) (length text) fits in
        let (ended, whole) = put_front put fits in
        record {
          gives = rw (← opens, enough, ended) (record { answers = refl; leaves = refl });
          fills = whole ∙ sym (text_filled a text (rw (← opens, enough)));
        }
