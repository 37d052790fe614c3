-- What a call that is done leaves: as many words as there were, and a sound arena where it was sound.
use mathlib.Core.Path.{◌≡◌, refl, ◌∙◌}
use mathlib.Core.Bool.{true}
use mathlib.Core.List.{List, [], ◌∷◌, ◌++◌}
use Prim.Native.Nat.{ℕ}
use native.Mathlib.Omega.{arith}
use lib.ListN.{length}
use Rattle.layout.specs.Numbers.{need}
use Rattle.layout.specs.Chunks.{Chunk, free, live, written}
use Rattle.layout.specs.Walk.{sound, chunks_of}
use Rattle.layout.specs.declared.Reason.{Reason}
use Rattle.layout.proofs.Holds.{Lawful, sizes_split}
use Rattle.layout.proofs.Written.{length_written}
use Rattle.layout.proofs.Round.{sound_lawful, sound_chunks, written_sound}
use Rattle.rules.specs.Answers.{Outcome}
use Rattle.rules.specs.Spots.{held}
use Rattle.rules.specs.Rules.{cut, trim, joined, released, copied}
use Rattle.rules.specs.Rooms.{room_words, room_after}
use Rattle.rules.specs.Stands.{GapAt}
use Rattle.rules.specs.Causes.{LawfulRequest}
use Rattle.rules.proofs.Searches.{BlockAt}
use Rattle.rules.proofs.Gates.{request_needed}
use Rattle.rules.proofs.Remainder.{cut_lawful}
use Rattle.rules.proofs.Staying.{KeepsOfRoom, kept_lawful}
use Rattle.rules.proofs.Copying.{length_copied}
use Rattle.rules.proofs.Joining.{joined_lawful}
use Rattle.rules.proofs.OldBlock.{StillThere, still_there}
use Rattle.rules.proofs.Starting.{whole_lawful}
use Rattle.rules.proofs.CallCases.{Case, refuses, does, Restarts, restarts, Allots, allots, Frees, frees, Measures, measures, Reports, reports}
use Rattle.rules.proofs.RegrantCases.{Resizes, resizes, Relocates, moves, Regrants, in_place, elsewhere}

-- the words `after` are an arena as the words `a` were
pub record Kept (a after : List ℕ) : Type 0 where
  pub same_length : length after ≡ length a
  pub still_sound : sound a ≡ true → sound after ≡ true

written_kept : (ks : List Chunk) (a : List ℕ) → Lawful (length a) ks → Kept a (written ks a)
written_kept ks a l = record { same_length = length_written ks a; still_sound = λ e. (written_sound ks a l).0 }

unchanged : (a : List ℕ) → Kept a a
unchanged a = record { same_length = refl; still_sound = λ e. e }

-- a refused call keeps the words, so all depends on what is done
pub kept : {fields : ℕ} {a : List ℕ} {Refuses : Reason → Type 0} {Does : List ℕ → List ℕ → Type 0} {outcome : Outcome}
    → ((values after : List ℕ) → Does values after → Kept a after) → Case fields a Refuses Does outcome → Kept a outcome.words
kept f (refuses why r) = unchanged _
kept f (does {values} {after} d) = f values after d

-- ---- the chunks that are written are lawful

module _ (a : List ℕ) (e : sound a ≡ true) where
  pub chunks_lawful : (ks : List Chunk) → chunks_of a ≡ ks → Lawful (length a) ks
  chunks_lawful ks same = rw same at (sound_chunks a e).law

  pub freed_lawful : (pre : List Chunk) (s asked : ℕ) (post : List Chunk) → chunks_of a ≡ pre ++ live s asked ∷ post
      → Lawful (length a) (joined (pre ++ free s ∷ post))
  freed_lawful pre s asked post same =
      let l = chunks_lawful _ same in
      let z = (sizes_split pre (live s asked ∷ post) l.sizes).1 in
      joined_lawful (length a) pre (live s asked ∷ []) (free s ∷ []) post l (z.0, z.1, tt) tt refl

  pub allots_lawful : (n : ℕ) → LawfulRequest (length a) n → (pre : List Chunk) (s : ℕ) (post : List Chunk) → GapAt a (need n) pre s post
      → Lawful (length a) (pre ++ (cut (need n) n s ++ post))
  allots_lawful n r pre s post (same, enough) =
      cut_lawful (length a) (need n) n pre s post (chunks_lawful _ same) (request_needed (length a) n (sound_lawful a e) r) enough

  pub resizes_lawful : (b n : ℕ) → LawfulRequest (length a) n → (pre : List Chunk) (s asked : ℕ) (post : List Chunk) → BlockAt a b pre s asked post → (keep : ℕ)
      → KeepsOfRoom (need n) s post keep → Lawful (length a) (pre ++ (trim keep n (room_words s post) ++ room_after post))
  resizes_lawful b n r pre s asked post is keep k =
      kept_lawful (length a) (need n) n s asked keep pre post (chunks_lawful _ is.same) (request_needed (length a) n (sound_lawful a e) r) k

-- a block moves
moved_kept : (a : List ℕ) (b block count s asked : ℕ) (ks : List Chunk) → StillThere (copied b block count (written ks a)) b s asked ks
    → Kept a (written (released (held b ks)) (copied b block count (written ks a)))
moved_kept a b block count s asked ks (is_sound, chunks, pre, post, old, found) =
    let freed = written_kept _ _ (freed_lawful (copied b block count (written ks a)) is_sound pre s asked post (chunks ∙ old.same)) in
    rw found
    (record {
      same_length = freed.same_length ∙ length_copied _ _ _ _ ∙ length_written ks a;
      still_sound = λ _. freed.still_sound is_sound;
    })

-- ---- what the calls do

module _ (a : List ℕ) where
  pub starts_kept : (values after : List ℕ) → Restarts a values after → Kept a after
  starts_kept values after (restarts l) = written_kept _ a (whole_lawful a l)

  pub allots_kept : (n : ℕ) (values after : List ℕ) → Allots a n values after → Kept a after
  allots_kept n values after (allots e r pre s post gap) = written_kept _ a (allots_lawful a e n r pre s post gap)

  pub frees_kept : (b : ℕ) (values after : List ℕ) → Frees a b values after → Kept a after
  frees_kept b values after (frees e pre s asked post is) = written_kept _ a (freed_lawful a e pre s asked post is.same)

  pub resizes_kept : (b n : ℕ) (values after : List ℕ) → Resizes a b n values after → Kept a after
  resizes_kept b n values after (resizes e r pre s asked post is keep k) = written_kept _ a (resizes_lawful a e b n r pre s asked post is keep k)

  pub relocates_kept : (b n : ℕ) (values after : List ℕ) → Relocates a b n values after → Kept a after
  relocates_kept b n values after (moves e r pre s asked post is before g behind gap block at_is ks same count shorter) =
      rw same
      (moved_kept a b block count s asked _
      (still_there a (need n) n pre s asked post before g behind b block count e (request_needed (length a) n (sound_lawful a e) r) is gap
      (omega arith) at_is))

  pub regrants_kept : (b n : ℕ) (values after : List ℕ) → Regrants a b n values after → Kept a after
  regrants_kept b n values after (in_place d) = resizes_kept b n values after d
  regrants_kept b n values after (elsewhere d) = relocates_kept b n values after d

  -- size and report leave the words as they were
  pub measures_same : (b : ℕ) (values after : List ℕ) → Measures a b values after → after ≡ a
  measures_same b values after (measures e pre s asked post is) = refl

  pub reports_same : (values after : List ℕ) → Reports a values after → after ≡ a
  reports_same values after (reports e) = refl

  pub same_kept : {after : List ℕ} → after ≡ a → Kept a after
  same_kept e = rw e (unchanged a)
