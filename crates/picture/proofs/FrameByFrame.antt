-- A text that is read frame by frame.
use Prim.Native.Nat.{ℕ, ◌+◌, ◌-◌, ◌*◌, ◌≤◌}
use mathlib.Core.Path.{◌≡◌, refl, sym, ap, ◌∙◌}
use mathlib.Core.Bool.{Bool, true, false, ◌&&◌}
use mathlib.Core.List.{List, [], ◌∷◌, ◌++◌, map, append_assoc}
use native.Mathlib.Omega.{arith}
use lib.ListN.{length, take, drop, length-append, length-drop}
use lib.Seq.{sets, sets-eq, drop-drop, length-take-le, take_at, drop_at}
use Rattle.digits.specs.Digits.{upper}
use Rattle.rules.specs.Pictures.{frame, frames_from, frames_for, words_in, line_head, line_length, standing_from, same}
use Rattle.rules.proofs.Pictures.{line_length_lem, words_count, standing_count_lem}
use Rattle.rules.proofs.Frames.{NextFrame, frames_next, standing_next, same_split}
use Rattle.spelling.proofs.Filling.{Filling, filled_on, filled_up}
use Rattle.frames.specs.Lines.{has_line}
use Rattle.picture.specs.Decoding.{ReadsFrame, Slot, holds_frames, ReadsFrames}

-- ---- frames, one after the other

-- the next frame, and those that follow
frames_follow : (at left count : ℕ) (text : List ℕ) → NextFrame left count
    → let front = frame at (words_in count (drop line_head text)) in
    holds_frames at left text ≡ (same (map upper (take (length front) text)) front && holds_frames (at + count) (left - count) (drop (line_length count) text))
unfolding holds_frames
frames_follow at left count text next =
    let here = words_in count (drop line_head text) in
    let rest = drop (line_length count) text in
    let behind = standing_from (frames_for (left - count)) (left - count) rest in
    let all = standing_from (frames_for left) left text in
    let split : all ≡ here ++ behind = standing_next left count text next in
    let long : length all ≡ left = standing_count_lem (frames_for left) left text refl in
    let counted : length here ≡ count = words_count count (drop line_head text) in
    let front = frame at here in
    let size : length front ≡ line_length count = omega (arith, line_length_lem 7 at here) in
    let first : take count all ≡ here = ap (take count) split ∙ take_at here behind count counted in
    let second : drop count all ≡ behind = ap (drop count) split ∙ drop_at here behind count counted in
    let frames : frames_from (frames_for left) at all ≡ front ++ frames_from (frames_for (left - count)) (at + count) behind
    = ap (λ (n : ℕ). frames_from (frames_for n) at all) (sym long)
    ∙ frames_next all at count (rw long next)
    ∙ rw (long, first, second) in
    ap (same (map upper text)) frames ∙ same_split text front (frames_from (frames_for (left - count)) (at + count) behind)
    ∙ ap (λ (n : ℕ). same (map upper (take (length front) text)) front && same (map upper (drop n text)) (frames_from (frames_for (left - count)) (at + count) behind)) size

-- where nothing is left, nothing may follow
frames_ended : (at : ℕ) (text : List ℕ) → length text ≡ 0 → holds_frames at 0 text ≡ true
unfolding holds_frames same frames_from
frames_ended at [] e = refl
frames_ended at (b ∷ text) e = absurd (omega arith)

-- ---- the loop

-- the bytes from `at` on hold the frames of the words from `i` on; what is known so far depends on the rest alone, and
-- the words so far are in the buffer, once `old`, if it has room for all
pub record Reading (text : List ℕ) (n : ℕ) (old buffer : List ℕ) (at i : ℕ) : Type 0 where
  pub within : i ≤ n
  pub ahead : at + ((n - i) * 8 + frames_for (n - i) * 7) ≡ length text
  pub kept : length buffer ≡ length old
  pub rest_tells : holds_frames 0 n (drop (line_length 0) text) ≡ holds_frames i (n - i) (drop at text)
  pub filling : n ≤ length old
      → Filling old buffer i (standing_from (frames_for (n - i)) (n - i) (drop at text)) (standing_from (frames_for n) n (drop (line_length 0) text))

-- a buffer with a part of it stored anew
abbrev pub stored : List ℕ → ℕ → ℕ → List ℕ → List ℕ
stored buffer slot end part = take slot buffer ++ (part ++ drop (end - slot) (drop slot buffer))

stored_sets : (buffer part : List ℕ) (slot end : ℕ) → end ≡ slot + length part → end ≤ length buffer → stored buffer slot end part ≡ sets buffer slot part
stored_sets buffer part slot end e h =
    let there : slot + (end - slot) ≡ slot + length part = omega arith in
    ap (λ (rest : List ℕ). take slot buffer ++ (part ++ rest)) (drop-drop (end - slot) slot buffer ∙ ap (λ (k : ℕ). drop k buffer) there)
    ∙ sym (append_assoc (take slot buffer) part (drop (slot + length part) buffer)) ∙ sym (sets-eq part buffer slot (omega arith))

stored_length : (buffer part : List ℕ) (slot end : ℕ) → end ≡ slot + length part → end ≤ length buffer
    → length (stored buffer slot end part) ≡ length buffer
stored_length buffer part slot end e h =
    let rest = drop (end - slot) (drop slot buffer) in
    omega (
      arith,
      length-append (take slot buffer) (part ++ rest),
      length-append part rest,
      length-take-le slot buffer (omega arith),
      length-drop slot buffer,
      length-drop (end - slot) (drop slot buffer),
    )

module _ (text : List ℕ) (n : ℕ) (old : List ℕ) where
  module _ {buffer : List ℕ} {at i : ℕ} (r : Reading text n old buffer at i) where
    module _ (count : ℕ) (next : NextFrame (n - i) count) {part : List ℕ} {found : Bool} (f : ReadsFrame text at i count found part) where
      -- the text goes on where the frame is found, and what follows goes on
      steps : holds_frames 0 n (drop (line_length 0) text) ≡ (found && holds_frames (i + count) (n - (i + count)) (drop (at + line_length count) text))
      unfolding has_line
      steps =
          let further : n - i - count ≡ n - (i + count) = omega arith in
          r.rest_tells ∙ frames_follow i (n - i) count (drop at text) next
          ∙ rw (← f.loads, ← f.tells, drop-drop (line_length count) at text, further)

      pub reading_fails : found ≡ false → holds_frames 0 n (drop (line_length 0) text) ≡ false
      reading_fails e = steps ∙ rw e

      pub reading_next : (slot end : ℕ) → Slot i count (length buffer) slot → end ≡ slot + count → found ≡ true
          → Reading text n old (stored buffer slot end part) (at + line_length count) (i + count)
      reading_next slot end s to e =
          let long : length part ≡ count = ap length f.loads ∙ words_count count (drop line_head (drop at text)) in
          let further : n - i - count ≡ n - (i + count) = omega arith in
          record {
            within = omega arith;
            ahead = omega (arith, r.ahead);
            kept = stored_length buffer part slot end (omega arith) (omega arith) ∙ r.kept;
            rest_tells = steps ∙ rw e;
            filling = λ h.
                let here : slot ≡ i = s.stays (omega (arith, r.kept)) in
                let words = rw (← f.loads, drop-drop (line_length count) at text, further) at (standing_next (n - i) count (drop at text) next) in
                rw (stored_sets buffer part slot end (omega arith) (omega (arith, s.lies)), here)
                (filled_on old buffer i (i + count) part _ (omega arith) (omega arith) words (r.filling h));
          }

    pub reading_ends : n ≤ i → ReadsFrames text n true buffer
    unfolding standing_from
    reading_ends over =
        let none : n - i ≡ 0 = omega arith in
        let last : i ≡ n = omega arith in
        record {
          tells = sym (r.rest_tells ∙ rw none (frames_ended i (drop at text) (omega (arith, length-drop at text, r.ahead))));
          loads = λ e h. ap (λ (k : ℕ). take k buffer) (sym last) ∙ filled_up old buffer i (rw none) (r.filling (omega (arith, r.kept)));
        }

pub reading_failed : (text : List ℕ) (n : ℕ) {buffer : List ℕ} → holds_frames 0 n (drop (line_length 0) text) ≡ false → ReadsFrames text n false buffer
reading_failed text n e = record { tells = sym e; loads = λ z h. absurd (let q : ◌≡◌ {A = ℕ} 0 1 = cc in omega arith) }
