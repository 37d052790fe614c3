-- Demand 3 of our calls, over every run, under any policies that are fitting. Of the calls as they are it is so by
-- `all_fitting`.
use mathlib.Core.Path.{sym, ap, ◌∙◌}
use mathlib.Core.Bool.{true≢false}
use Rattle.rules.specs.Answers.{Outcome}
use Rattle.rules.specs.Fits.{Fit, Policies}
use Rattle.rules.specs.Picks.{AllFitting}
use Rattle.rules.specs.Libraries.{alloc, resize, relocate, realloc, read, library_by}
use Rattle.rules.proofs.Calls.{start_behaves}
use Rattle.rules.proofs.PictureCalls.{read_leaves, reads_sound}
use Rattle.ledger.specs.Demands.{Starts, Receives, Lengths, Apart, Inside, Keeps, Lasts, Sums, RoomForAlloc, RoomForResize, RoomForRelocate}
use Rattle.ledger.specs.Demands.{RoomForRealloc, ShrinksToNeed, Known}
use Rattle.ledger.proofs.WantOfRoom.{alloc_room, resize_room, relocate_room, realloc_room, resize_shrinks, realloc_shrinks}
use Rattle.ledger.proofs.Showing.{lies_apart, lies_inside, adds_up, tells}
use Rattle.ledger.proofs.Runs.{block_keeps, run_agrees}
use Rattle.ledger.proofs.Lasting.{stored_lasts}

module _ (policies : Policies) (fitting : AllFitting policies) where
  pub starts : Starts (library_by policies)
  starts a l = (start_behaves a).done.1 (λ why h. true≢false (sym l ∙ h.1))

  pub receives : Receives (library_by policies)
  receives a text = (
    λ z. let (s, e, d) = read_leaves text a z in ((library_by policies (read text) a).words, s, e, d),
    λ (ws, s, e, d). ap (λ (outcome : Outcome). outcome.answer.code) (reads_sound text a ws s e d),
  )

  pub lengths : Lengths (library_by policies)
  lengths n s run = (run_agrees policies fitting run).long

  pub apart : Apart (library_by policies)
  apart n s run = lies_apart n s.words s.ledger (run_agrees policies fitting run)

  pub inside : Inside (library_by policies)
  inside n s run = lies_inside n s.words s.ledger (run_agrees policies fitting run)

  pub keeps : Keeps (library_by policies)
  keeps n s run = block_keeps policies fitting n s (run_agrees policies fitting run)

  pub lasts : Lasts (library_by policies)
  lasts n s b i v stored = (stored_lasts policies fitting stored).1

  pub sums : Sums (library_by policies)
  sums n s run = adds_up n s.words s.ledger (run_agrees policies fitting run)

  pub room_for_alloc : (fit : Fit) → RoomForAlloc (library_by policies) (alloc fit)
  room_for_alloc fit n s run = alloc_room n s.words s.ledger (run_agrees policies fitting run) (policies fit) (fitting fit)

  pub room_for_resize : RoomForResize (library_by policies) resize
  room_for_resize n s run = resize_room n s.words s.ledger (run_agrees policies fitting run)

  pub room_for_relocate : RoomForRelocate (library_by policies) relocate
  room_for_relocate n s run = relocate_room n s.words s.ledger (run_agrees policies fitting run)

  pub room_for_realloc : RoomForRealloc (library_by policies) realloc
  room_for_realloc n s run = realloc_room n s.words s.ledger (run_agrees policies fitting run)

  pub resize_to_need : ShrinksToNeed (library_by policies) resize
  resize_to_need n s run = resize_shrinks n s.words s.ledger (run_agrees policies fitting run)

  pub realloc_to_need : ShrinksToNeed (library_by policies) realloc
  realloc_to_need n s run = realloc_shrinks n s.words s.ledger (run_agrees policies fitting run)

  pub known : Known (library_by policies)
  known n s run = tells n s.words s.ledger (run_agrees policies fitting run) policies fitting
