-- The numbers of an answer fit their digits: the code has two of them, each field four.
use Prim.Native.Nat.{ℕ, ◌+◌, ◌-◌, ◌≤◌, ◌<◌}
use mathlib.Core.Path.{◌≡◌, refl, ap}
use mathlib.Core.Bool.{true}
use mathlib.Core.List.{List, [], ◌∷◌, ◌++◌}
use native.Mathlib.Omega.{arith}
use lib.ListN.{length, length-replicate}
use Rattle.layout.specs.Numbers.{first_chunk, header_words, need}
use Rattle.layout.specs.Chunks.{Chunk, free, live, total}
use Rattle.layout.specs.Walk.{sound, chunks_of}
use Rattle.layout.specs.Reasons.{number}
use Rattle.layout.specs.declared.Reason.{Reason}
use Rattle.layout.specs.declared.Reason.TheVariants.{Length, Damaged, NotABlock, Zero, TooLarge, NoRoom, Frame, WouldMove, TextRoom}
use Rattle.layout.specs.Bounds.{AllBelow}
use Rattle.layout.proofs.Holds.{total_append}
use Rattle.layout.proofs.Bounds.{zeros_below}
use Rattle.layout.proofs.Round.{sound_chunks}
use Rattle.rules.specs.Answers.{Outcome}
use Rattle.rules.specs.Rooms.{room_words, room_after}
use Rattle.rules.specs.Calls.{start_on, alloc_on, free_on, realloc_on, report_on}
use Rattle.rules.proofs.Remainder.{cut_numbers}
use Rattle.rules.proofs.ReportCounts.{counts_small}
use Rattle.rules.proofs.CallCases.{Case, refuses, does, Restarts, restarts, start_case, Allots, allots, alloc_case, Frees, frees, free_case, Reports}
use Rattle.rules.proofs.CallCases.{reports, report_case}
use Rattle.rules.proofs.Rooms.{room_tail, room_split, room_words_lem}
use Rattle.rules.proofs.Staying.{kept_numbers}
use Rattle.rules.proofs.RegrantCases.{resizes, moves, Regrants, in_place, elsewhere, realloc_case}
use Rattle.digits.specs.Digits.{two_digit_values, four_digit_values}

-- ---- the code

number_small : (why : Reason) → number why < two_digit_values
number_small Length = omega arith
number_small Damaged = omega arith
number_small NotABlock = omega arith
number_small Zero = omega arith
number_small TooLarge = omega arith
number_small NoRoom = omega arith
number_small Frame = omega arith
number_small WouldMove = omega arith
number_small TextRoom = omega arith

-- the code of a call's answer fits two digits
pub code_below : {fields : ℕ} {a : List ℕ} {Refuses : Reason → Type 0} {Does : List ℕ → List ℕ → Type 0} {outcome : Outcome}
    → Case fields a Refuses Does outcome → outcome.answer.code < two_digit_values
code_below (refuses why r) = number_small why
code_below (does d) = omega arith

-- ---- the fields

-- so many fields, each of which fits four digits
pub record Fits (fields : ℕ) (values : List ℕ) : Type 0 where
  pub count : length values ≡ fields
  pub small : AllBelow four_digit_values values

-- a refusal's fields are 0, so all depends on what is done
case_fits : {fields : ℕ} {a : List ℕ} {Refuses : Reason → Type 0} {Does : List ℕ → List ℕ → Type 0} {outcome : Outcome}
    → ((values after : List ℕ) → Does values after → Fits fields values) → Case fields a Refuses Does outcome → Fits fields outcome.answer.values
case_fits {fields} f (refuses why r) = record { count = length-replicate fields 0; small = zeros_below four_digit_values fields (omega arith) }
case_fits f (does {values} {after} d) = f values after d

module _ (a : List ℕ) where
  -- of the words of some chunks, `old`, so many are granted, header counted: that gives two fields that fit
  granted_fits : sound a ≡ true → (pre old post : List Chunk) (words got block : ℕ) → chunks_of a ≡ pre ++ (old ++ post)
      → words ≡ total old → got ≤ words → block ≤ first_chunk + total pre + words + header_words → Fits 2 (block ∷ (got - header_words) ∷ [])
  granted_fits e pre old post words got block same all within near =
      let law = (sound_chunks a e).law in
      omega (arith, ap total same, total_append pre (old ++ post), total_append old post)

  -- a start answers no field
  pub start_fits : Fits 0 (start_on a).answer.values
  start_fits = case_fits go (start_case a)
    where
      go : (values after : List ℕ) → Restarts a values after → Fits 0 values
      go values after (restarts l) = record { count = refl; small = tt }

  -- alloc answers a block and its granted words, and both fit
  pub alloc_fits : (n : ℕ) → Fits 2 (alloc_on a n).answer.values
  alloc_fits n = case_fits go (alloc_case a n)
    where
      go : (values after : List ℕ) → Allots a n values after → Fits 2 values
      go values after (allots e r pre s post (same, enough)) =
          granted_fits e pre (free s ∷ []) post s _ _ same (omega arith) (cut_numbers (need n) s enough).within (omega arith)

  -- free answers no field
  pub free_fits : (b : ℕ) → Fits 0 (free_on a b).answer.values
  free_fits b = case_fits go (free_case a b)
    where
      go : (values after : List ℕ) → Frees a b values after → Fits 0 values
      go values after (frees e pre s asked post is) = record { count = refl; small = tt }

  -- realloc answers a block and its granted words, and both fit
  pub realloc_fits : (b n : ℕ) → Fits 2 (realloc_on a b n).answer.values
  realloc_fits b n = case_fits go (realloc_case a b n)
    where
      go : (values after : List ℕ) → Regrants a b n values after → Fits 2 values
      go values after (in_place (resizes e r pre s asked post is keep k)) =
          granted_fits e pre (live s asked ∷ room_tail post) (room_after post) (room_words s post) keep b
          (room_split pre s asked post is.same) (room_words_lem s post) (kept_numbers (need n) s keep post k).within (omega (arith, is.number_is))
      go values after (elsewhere (moves e r pre s asked post is before g behind gap block at_is ks same count fewer)) =
          granted_fits e before (free g ∷ []) behind g _ block gap.0 (omega arith) (cut_numbers (need n) g gap.1).within (omega arith)

  -- report answers four numbers, and all fit
  pub report_fits : Fits 4 (report_on a).answer.values
  report_fits = case_fits go (report_case a)
    where
      go : (values after : List ℕ) → Reports a values after → Fits 4 values
      go values after (reports e) = omega (arith, counts_small a e)
