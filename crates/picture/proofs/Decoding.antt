-- What a text says, by its first line and its frames; and what comes of it for an arena.
use Prim.Native.Nat.{ℕ, ◌<◌, ◌≤◌}
use mathlib.Core.Path.{◌≡◌, refl, sym, ap, ◌∙◌}
use mathlib.Core.Logic.{◌≢◌}
use mathlib.Core.Bool.{Bool, true, false, cond, ◌&&◌}
use mathlib.Core.List.{List, [], ◌++◌, map}
use native.Mathlib.Omega.{arith}
use lib.ListN.{length, take, drop}
use borrow.Author.Tests.{eq-eqb}
use Rattle.layout.specs.Numbers.{lawful}
use Rattle.std.specs.Prelude.{None, Some}
use Rattle.layout.specs.declared.Reason.TheVariants.{Length, Frame}
use Rattle.digits.specs.Digits.{upper}
use Rattle.rules.specs.Answers.{Answer, Gives, refusal}
use Rattle.rules.specs.Pictures.{size_line, frames_from, frames_for, picture_of, picture_length, line_length, Said, bad, good, standing_count, standing_from, standing}
use Rattle.rules.specs.Pictures.{same, said}
use Rattle.rules.specs.Calls.{read_on}
use Rattle.rules.proofs.Gates.{unlawful_gate}
use Rattle.rules.proofs.Pictures.{line_length_lem, standing_count_lem}
use Rattle.rules.proofs.Frames.{same_split}
use Rattle.rules.proofs.Saying.{other_length_bad}
use Rattle.frames.specs.Lines.{has_line}
use Rattle.picture.specs.Decoding.{holds_frames, ReadsFrames, Finds, Accepts}

-- ---- a whole text: its first line, and then the frames

picture_parts : (text : List ℕ)
    → same (map upper text) (picture_of (standing text))
    ≡ (same (map upper (take (line_length 0) text)) (size_line (standing_count text)) && holds_frames 0 (standing_count text) (drop (line_length 0) text))
unfolding picture_of holds_frames
picture_parts text =
    let n = standing_count text in
    let long : length (standing text) ≡ n = standing_count_lem (frames_for n) n (drop (line_length 0) text) refl in
    ap (λ (m : ℕ). same (map upper text) (size_line m ++ frames_from (frames_for m) 0 (standing text))) long
    ∙ same_split text (size_line n) (frames_from (frames_for n) 0 (standing text))
    ∙ ap (λ (m : ℕ). same (map upper (take m text)) (size_line n) && same (map upper (drop m text)) (frames_from (frames_for n) 0 (standing text)))
    (line_length_lem 6 n [])

-- ---- what is found of a text

-- the first line and the frames decide
said_parts : (text : List ℕ)
    → said text
    ≡ cond (has_line (size_line (standing_count text)) text && holds_frames 0 (standing_count text) (drop (line_length 0) text)) (good (standing text)) bad
unfolding said has_line
said_parts text =
    let n = standing_count text in
    let long : line_length 0 ≡ length (size_line n) = sym (line_length_lem 6 n []) in
    ap (λ (b : Bool). cond b (good (standing text)) bad)
    (picture_parts text ∙ ap (λ (k : ℕ). same (map upper (take k text)) (size_line n) && holds_frames 0 n (drop (line_length 0) text)) long)

pub finds_too_short : (text buffer : List ℕ) → length text < line_length 0 → Finds (said text) None buffer
finds_too_short text buffer short = rw (other_length_bad text (λ e. omega arith)) tt

-- a text of so many words by its first line: `line` tells whether this is the line, and `r` whether the frames follow
module _ (text buffer : List ℕ) (n : ℕ) (told : n ≡ standing_count text) where
  pub finds_other_length : (long : ℕ) → long ≡ picture_length n → length text ≢ long → Finds (said text) None buffer
  finds_other_length long e other = rw (other_length_bad text (λ l. other (l ∙ ap picture_length (sym told) ∙ sym e))) tt

  module _ (line : Bool) (first : line ≡ has_line (size_line n) text) where
    pub finds_no_line : line ≡ false → Finds (said text) None buffer
    finds_no_line e = let q : said text ≡ bad = said_parts text ∙ rw (← told, ← first, e) in rw q tt

    module _ (r : Bool) (f : ReadsFrames text n r buffer) (there : line ≡ true) where
      pub finds_words : r ≡ true → Finds (said text) (Some n) buffer
      finds_words e =
          let q : said text ≡ good (standing text) = said_parts text ∙ rw (← told, ← first, there, ← f.tells, e) in
          let behind = drop (line_length 0) text in
          rw q (
            told ∙ sym (standing_count_lem _ (standing_count text) behind refl),
            λ h. f.loads e h ∙ ap (λ (k : ℕ). standing_from (frames_for k) k behind) told,
          )

      pub finds_no_frames : r ≡ false → Finds (said text) None buffer
      finds_no_frames e = let q : said text ≡ bad = said_parts text ∙ rw (← told, ← first, there, ← f.tells, e) in rw q tt

pub ruleset findings = (finds_too_short, finds_other_length, finds_no_line, finds_words, finds_no_frames)

-- ---- what comes of that

found_bad : (s : Said) (buffer : List ℕ) → Finds s None buffer → s ≡ bad
found_bad bad buffer f = refl
found_bad (good ws) buffer f = absurd f

found_words : (s : Said) (n : ℕ) (buffer : List ℕ) → Finds s (Some n) buffer
    → (ws : List ℕ) × (s ≡ good ws) × (n ≡ length ws) × (n ≤ length buffer → take n buffer ≡ ws)
found_words bad n buffer f = absurd f
found_words (good ws) n buffer f = (ws, refl, f.0, f.1)

pub reads_bad : (text a buffer : List ℕ) → Finds (said text) None buffer → Gives (read_on text a) (refusal 0 Frame) a
unfolding read_on
reads_bad text a buffer f = rw (found_bad (said text) buffer f) (record { answers = refl; leaves = refl })

-- words that were found are accepted just where the text is read
pub reads_words : (text a buffer : List ℕ) (n : ℕ) {answer : Answer} {after : List ℕ} → Finds (said text) (Some n) buffer
    → Accepts n buffer a answer after → Gives (read_on text a) answer after
unfolding read_on
reads_words text a buffer n f accepts = accepts (said text) f

-- words that are as many as the arena's, but no arena's number, are refused
pub accept_unlawful : (n : ℕ) (buffer a : List ℕ) → n ≡ length a → lawful n ≡ false → Accepts n buffer a (refusal 0 Length) a
accept_unlawful n buffer a same_length l found f =
    let (ws, is, long, there) = found_words found n buffer f in
    rw (is, eq-eqb (length ws) (length a) (sym long ∙ same_length), unlawful_gate ws (ap lawful (sym long) ∙ l))
    (record { answers = refl; leaves = refl })
