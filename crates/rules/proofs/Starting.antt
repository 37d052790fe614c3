-- What start leaves where the length is lawful: four words are written, all others stay, and the arena is one free
-- chunk.
use mathlib.Core.Path.{◌≡◌, refl, ◌∙◌}
use mathlib.Core.Bool.{true}
use mathlib.Core.List.{List, [], ◌∷◌}
use Prim.Native.Nat.{ℕ, ◌-◌}
use native.Mathlib.Omega.{arith}
use lib.ListN.{length, get_or, set}
use Rattle.layout.specs.Numbers.{control_words, lawful}
use Rattle.layout.specs.Chunks.{free, header, write, written}
use Rattle.layout.specs.Walk.{sound, chunks_of}
use Rattle.layout.proofs.Bools.{lawful_bounds}
use Rattle.layout.proofs.Holds.{Lawful}
use Rattle.layout.proofs.Written.{set_same}
use Rattle.layout.proofs.Round.{written_sound}
use Rattle.rules.specs.Calls.{start_on}

module _ (a : List ℕ) (l : lawful (length a) ≡ true) where
  pub start_words : (start_on a).words ≡ set (set (set (set a 0 (length a)) 1 2) 2 (length a - 2)) 3 0
  unfolding start_on written write header
  start_words = rw l

  -- where those four words stand, a start changes nothing
  pub start_again : get_or a 0 0 ≡ length a → get_or a 1 0 ≡ 2 → get_or a 2 0 ≡ length a - 2 → get_or a 3 0 ≡ 0 → (start_on a).words ≡ a
  start_again n first all next =
      start_words ∙ rw (set_same a 0 (length a) n, set_same a 1 2 first, set_same a 2 (length a - 2) all, set_same a 3 0 next)

  pub whole_lawful : Lawful (length a) (free (length a - control_words) ∷ [])
  whole_lawful =
      let b = lawful_bounds (length a) l in
      record { even = b.0; least = b.1; most = b.2; sizes = (omega arith, omega arith, tt); asks = tt; spaced = (refl, tt); fills = omega arith }

  pub start_sound : sound (start_on a).words ≡ true
  unfolding start_on
  start_sound = rw l (written_sound _ a whole_lawful).0

  pub start_chunks : chunks_of (start_on a).words ≡ free (length a - control_words) ∷ []
  unfolding start_on
  start_chunks = rw l (written_sound _ a whole_lawful).1
