-- What comes of writing a picture and of reading one, case by case; and that one undoes the other.
use Prim.Native.Nat.{ℕ, ◌+◌, ◌-◌, ◌≤◌}
use mathlib.Core.Path.{◌≡◌, refl, sym, ap, ◌∙◌}
use mathlib.Core.Logic.{◌≢◌}
use mathlib.Core.Bool.{Bool, true, false, cond}
use mathlib.Core.List.{List, [], ◌∷◌, ◌++◌, map}
use native.Mathlib.Omega.{arith}
use lib.ListN.{length, get_or, take, drop, length-append, length-drop, length-map}
use lib.Seq.{take-append_seam}
use lib.Dec.{leb, eqb}
use borrow.Author.Tests.{leb-true, leb-false, le-leb, lt-leb, eqb-true, eqb-false, eq-eqb, ne_eqb}
use Rattle.layout.specs.Numbers.{first_chunk, word_values, lawful}
use Rattle.layout.specs.Bounds.{AllBelow}
use Rattle.layout.specs.Chunks.{Chunk, total}
use Rattle.layout.specs.Walk.{sound}
use Rattle.layout.specs.Reasons.{number, arena_gate}
use Rattle.layout.specs.Reasons.{Gate}
use Rattle.layout.specs.declared.Reason.{Reason}
use Rattle.layout.specs.declared.Reason.TheVariants.{Length, Damaged, Frame, TextRoom}
use Rattle.layout.proofs.Holds.{Sizes}
use Rattle.layout.proofs.Round.{sound_chunks}
use Rattle.layout.proofs.Older.{OlderHeads, SomeLive, older_damaged}
use Rattle.digits.specs.Digits.{upper}
use Rattle.rules.specs.Answers.{Answer, success, done, refused, settle, pass}
use Rattle.rules.specs.Pictures.{picture_of, Says, Said, good, said}
use Rattle.rules.specs.Calls.{write_on, text_after, read_into, read_on}
use Rattle.rules.specs.Causes.{WriteRefused, ReadRefused, no_length, unsound, short_text, bad_text, other_length}
use Rattle.rules.proofs.Gates.{Checked, unlawful, damaged, whole, checked, unlawful_gate, damaged_gate, sound_gate}
use Rattle.rules.proofs.CallCases.{Case, refuses, does, done_does}
use Rattle.rules.proofs.Keeping.{Kept}
use Rattle.rules.proofs.Starting.{start_again, start_sound}
use Rattle.rules.proofs.Saying.{Saying, says, nothing, saying, said_says, picture_says}

-- ---- to write one

module _ (a text : List ℕ) where
  pub data Draws : List ℕ → List ℕ → Type 0 where
    draws : sound a ≡ true → length (picture_of a) ≤ length text → Draws (length (picture_of a) ∷ []) a

  pub write_case : Case 1 a (WriteRefused a text) Draws (write_on a text)
  unfolding write_on
  write_case = go (checked a) (leb (length (picture_of a)) (length text)) refl
    where
      go : {arena : Gate} → Checked a arena → (room : Bool) → leb (length (picture_of a)) (length text) ≡ room
          → Case 1 a (WriteRefused a text) Draws (settle 1 a (pass arena (cond room (done (length (picture_of a) ∷ []) a) (refused TextRoom))))
      go (unlawful e) room r = refuses Length (no_length e)
      go (damaged e f) room r = refuses Damaged (unsound e f)
      go (whole e) true r = does (draws e (leb-true _ _ r))
      go (whole e) false r = refuses TextRoom (short_text e (leb-false _ _ r))

  pub write_gives : (why : Reason) → WriteRefused a text why → (write_on a text).answer.code ≡ number why
  unfolding write_on
  write_gives why (no_length e) = rw (unlawful_gate a e)
  write_gives why (unsound e f) = rw (damaged_gate a e f)
  write_gives why (short_text e l) = rw (sound_gate a e, lt-leb _ _ l)

  pub writes_same : (values after : List ℕ) → Draws values after → after ≡ a
  writes_same values after (draws e r) = refl

  -- the lent text: it is filled from its start, its rest and its length stay; a refusal leaves it as it was

  pub text_unchanged : (write_on a text).answer.code ≢ 0 → text_after a text ≡ text
  unfolding text_after
  text_unchanged n = rw (ne_eqb _ _ n)

  pub text_filled : (write_on a text).answer.code ≡ 0 → text_after a text ≡ picture_of a ++ drop (length (picture_of a)) text
  unfolding text_after
  text_filled z = rw (eq-eqb _ _ z)

  -- a writing that is done has a sound arena, and room
  pub written_room : (write_on a text).answer.code ≡ 0 → (sound a ≡ true) × (length (picture_of a) ≤ length text)
  written_room z = go (done_does write_case z)
    where
      go : {values after : List ℕ} → Draws values after → (sound a ≡ true) × (length (picture_of a) ≤ length text)
      go (draws e r) = (e, r)

  pub text_length : length (text_after a text) ≡ length text
  text_length = go (eqb (write_on a text).answer.code 0) refl
    where
      go : (written : Bool) → eqb (write_on a text).answer.code 0 ≡ written → length (text_after a text) ≡ length text
      go true e =
          let z = eqb-true _ _ e in
          ap length (text_filled z) ∙ length-append (picture_of a) (drop (length (picture_of a)) text)
          ∙ omega (arith, length-drop (length (picture_of a)) text, written_room z)
      go false e = ap length (text_unchanged (eqb-false _ _ e))

  -- what was written is the picture
  pub picture_there : (write_on a text).answer.code ≡ 0 → take (length (picture_of a)) (text_after a text) ≡ picture_of a
  picture_there z =
      ap (take (length (picture_of a))) (text_filled z) ∙ take-append_seam (picture_of a) (drop (length (picture_of a)) text)

  -- it is done, and answers the picture's length, wherever a sound arena's picture has room
  pub writes_sound : sound a ≡ true → length (picture_of a) ≤ length text → (write_on a text).answer ≡ success (length (picture_of a) ∷ [])
  unfolding write_on
  writes_sound e room = rw (sound_gate a e, le-leb _ _ room)

-- ---- to read one

module _ (text a : List ℕ) where
  pub data Takes : List ℕ → List ℕ → Type 0 where
    takes : (ws : List ℕ) → Says text ws → length ws ≡ length a → sound ws ≡ true → Takes [] ws

  pub read_case : Case 0 a (ReadRefused text a) Takes (read_on text a)
  unfolding read_on
  read_case = go (saying text)
    where
      told : (ws : List ℕ) → Says text ws → {arena : Gate} → Checked ws arena → (fits : Bool) → eqb (length ws) (length a) ≡ fits
          → Case 0 a (ReadRefused text a) Takes (settle 0 a (cond fits (pass arena (done [] ws)) (refused Length)))
      told ws s c false e = refuses Length (other_length ws s (eqb-false _ _ e))
      told ws s (unlawful l) true e = refuses Length (no_length ws s l)
      told ws s (damaged l d) true e = refuses Damaged (unsound ws s (eqb-true _ _ e) l d)
      told ws s (whole d) true e = does (takes ws s (eqb-true _ _ e) d)

      go : {found : Said} → Saying text found → Case 0 a (ReadRefused text a) Takes (settle 0 a (read_into (length a) found))
      go (says ws s) = told ws s (checked ws) (eqb (length ws) (length a)) refl
      go (nothing none) = refuses Frame (bad_text none)

  -- a text that says words, which then decide
  said_reads : (ws : List ℕ) → Says text ws → read_on text a ≡ settle 0 a (read_into (length a) (good ws))
  unfolding read_on
  said_reads ws s = rw ((said_says text ws).1 s)

  pub read_gives : (why : Reason) → ReadRefused text a why → (read_on text a).answer.code ≡ number why
  unfolding read_on
  read_gives why (bad_text none) = go (saying text) refl
    where
      go : {found : Said} → Saying text found → said text ≡ found → (read_on text a).answer.code ≡ number Frame
      go (says ws s) e = absurd (none ws s)
      go (nothing n) e = rw e
  read_gives why (other_length ws s n) = rw (said_reads ws s, ne_eqb _ _ n)
  read_gives why (no_length ws s l) = rw (said_reads ws s) (go (eqb (length ws) (length a)))
    where
      go : (fits : Bool) → (settle 0 a (cond fits (pass (arena_gate ws) (done [] ws)) (refused Length))).answer.code ≡ number Length
      go true = rw (unlawful_gate ws l)
      go false = refl
  read_gives why (unsound ws s e l d) = rw (said_reads ws s, eq-eqb _ _ e, damaged_gate ws l d)

  pub reads_kept : (values after : List ℕ) → Takes values after → Kept a after
  reads_kept values after (takes ws s e d) = record { same_length = e; still_sound = λ was. d }

  -- a reading that is done leaves the words that its text says; they are as many as before, and sound
  pub read_leaves : (read_on text a).answer.code ≡ 0
      → Says text (read_on text a).words × (length (read_on text a).words ≡ length a) × (sound (read_on text a).words ≡ true)
  read_leaves z = go (done_does read_case z)
    where
      go : {values after : List ℕ} → Takes values after → Says text after × (length after ≡ length a) × (sound after ≡ true)
      go (takes ws s e d) = (s, e, d)

  -- a text that says a sound arena of this length is read, and its words are the arena
  pub reads_sound : (ws : List ℕ) → Says text ws → length ws ≡ length a → sound ws ≡ true → read_on text a ≡ record { answer = success []; words = ws }
  reads_sound ws s e d = rw (said_reads ws s, eq-eqb _ _ e, sound_gate ws d)

  -- a text that says an arena as earlier boards had it, with a live chunk in it, is refused as damaged
  pub older_refused : (ws : List ℕ) (ks : List Chunk) → Says text ws → length ws ≡ length a → lawful (length ws) ≡ true
      → OlderHeads ws first_chunk ks → Sizes ks → first_chunk + total ks ≡ length ws → SomeLive ks → (read_on text a).answer.code ≡ number Damaged
  older_refused ws ks s e l heads sizes fills some = read_gives Damaged (unsound ws s e l (older_damaged ws ks heads sizes fills some))

  -- one with no live chunk has, then and now, the four words of a start, and is read
  pub older_read : (ws : List ℕ) → Says text ws → length ws ≡ length a → lawful (length ws) ≡ true
      → get_or ws 0 0 ≡ length ws → get_or ws 1 0 ≡ 2 → get_or ws 2 0 ≡ length ws - 2 → get_or ws 3 0 ≡ 0
      → read_on text a ≡ record { answer = success []; words = ws }
  older_read ws s e l n first all next =
      reads_sound ws s e (ap sound (sym (start_again ws l n first all next)) ∙ start_sound ws l)

-- ---- one undoes the other

-- what was written is read back equal, into any arena of that length
pub written_read : (a text other : List ℕ) → AllBelow word_values a → length other ≡ length a → (write_on a text).answer.code ≡ 0
    → read_on (take (length (picture_of a)) (text_after a text)) other ≡ record { answer = success []; words = a }
written_read a text other fits e z =
    let (is_sound, room) = written_room a text z in
    let most = (sound_chunks a is_sound).law.most in
    rw (picture_there a text z)
    (reads_sound (picture_of a) other a (picture_says a (omega arith) fits) (sym e) is_sound)

-- what was read and is written again is the same text in upper case
pub read_written : (text a room : List ℕ) → (read_on text a).answer.code ≡ 0 → length text ≤ length room
    → let ws = (read_on text a).words in
    ((write_on ws room).answer ≡ success (length text ∷ [])) × (take (length text) (text_after ws room) ≡ map upper text)
read_written text a room z long =
    let ws = (read_on text a).words in
    let (s, e, d) = read_leaves text a z in
    let same : length (picture_of ws) ≡ length text = ap length (sym s.is) ∙ length-map text upper in
    let written = writes_sound ws room d (omega arith) in (
      written ∙ ap (λ (n : ℕ). success (n ∷ [])) same,
      ap (λ (n : ℕ). take n (text_after ws room)) (sym same) ∙ picture_there ws room (ap (λ (r : Answer). r.code) written) ∙ sym s.is,
    )
