-- What the report answers; how large its counts can be, no count being more than the words of the chunks counted; and
-- that its live blocks and its free chunks are all chunks.
use mathlib.Core.Path.{◌≡◌}
use mathlib.Core.Bool.{true}
use mathlib.Core.List.{List, [], ◌∷◌}
use Prim.Native.Nat.{ℕ, ◌+◌, ◌-◌, ◌≤◌}
use native.Mathlib.Omega.{arith}
use lib.ListN.{length}
use Rattle.layout.specs.Numbers.{header_words, greatest_length}
use Rattle.layout.specs.Chunks.{Chunk, free, live, total}
use Rattle.layout.specs.Walk.{sound, chunks_of}
use Rattle.layout.proofs.Holds.{Sizes}
use Rattle.layout.proofs.Round.{sound_chunks}
use Rattle.rules.specs.Answers.{success}
use Rattle.rules.specs.Rules.{free_words, widest, live_blocks, free_chunks}
use Rattle.rules.specs.Calls.{report_on}
use Rattle.rules.proofs.Gates.{sound_gate}

-- the report of a sound arena
pub report_answers : (a : List ℕ) → sound a ≡ true
    → let ks = chunks_of a in
    (report_on a).answer ≡ success (free_words ks ∷ (widest ks - header_words) ∷ live_blocks ks ∷ free_chunks ks ∷ [])
unfolding report_on
report_answers a e = rw (sound_gate a e)

-- each of the report's counts of `ks` is at most `n`
pub record Below (n : ℕ) (ks : List Chunk) : Type 0 where
  pub words_fit : free_words ks ≤ n
  pub widest_fits : widest ks ≤ n
  pub blocks_fit : live_blocks ks ≤ n
  pub chunks_fit : free_chunks ks ≤ n

pub counts_within : (ks : List Chunk) → Sizes ks → Below (total ks) ks
counts_within [] z = record { words_fit = omega arith; widest_fits = omega arith; blocks_fit = omega arith; chunks_fit = omega arith }
counts_within (free s ∷ ks) z = let b = counts_within ks z.2 in omega arith
counts_within (live s asked ∷ ks) z = let b = counts_within ks z.2 in omega arith

-- so the counts of a sound arena are at most the greatest length, and fit a word
pub counts_small : (a : List ℕ) → sound a ≡ true → Below greatest_length (chunks_of a)
counts_small a e =
    let r = (sound_chunks a e).law in
    let b = counts_within (chunks_of a) r.sizes in
    omega arith

-- every chunk is live or free
pub live_or_free : (ks : List Chunk) → length ks ≡ live_blocks ks + free_chunks ks
live_or_free [] = omega arith
live_or_free (free s ∷ ks) = omega (arith, live_or_free ks)
live_or_free (live s asked ∷ ks) = omega (arith, live_or_free ks)
