-- Words that all fit a word still do once chunks are written among them.
use mathlib.Core.List.{List, [], ◌∷◌}
use Prim.Native.Nat.{ℕ, zero, suc, ◌+◌, ◌≤◌, ◌<◌}
use native.Mathlib.Omega.{arith}
use lib.ListN.{length, set, replicate}
use Rattle.layout.specs.Numbers.{first_chunk, greatest_length, word_values}
use Rattle.layout.specs.Bounds.{AllBelow}
use Rattle.layout.specs.Chunks.{Chunk, free, live, size, total, first_free, second, header, write, written}
use Rattle.layout.proofs.Holds.{Asks, Lawful, first_free_within}

pub zeros_below : (bound count : ℕ) → 0 < bound → AllBelow bound (replicate count 0)
zeros_below bound zero some = tt
zeros_below bound (suc count) some = (some, zeros_below bound count some)

set_below : (bound : ℕ) (a : List ℕ) (i v : ℕ) → AllBelow bound a → v < bound → AllBelow bound (set a i v)
set_below bound [] i v below small = tt
set_below bound (u ∷ a) zero v below small = (small, below.1)
set_below bound (u ∷ a) (suc i) v below small = (below.0, set_below bound a i v below.1 small)

header_below : (i v w : ℕ) (a : List ℕ) → AllBelow word_values a → v < word_values → w < word_values → AllBelow word_values (header i v w a)
unfolding header
header_below i v w a below first_small second-small =
    set_below word_values (set a i v) (i + 1) w (set_below word_values a i v below first_small) second-small

-- a chunk's second word is a link within the arena, or the mark and what was asked for, which its block holds
second_below : (k : Chunk) (ks : List Chunk) (next : ℕ) → Asks (k ∷ ks) → size k ≤ greatest_length → next < word_values
    → (second k next < word_values) × Asks ks
second_below (free s) ks next asks within small = (small, asks)
second_below (live s asked) ks next asks within small = (omega (arith, asks.0.held), asks.1)

write_below : (c : ℕ) (ks : List Chunk) (a : List ℕ) → Asks ks → AllBelow word_values a → c + total ks ≤ greatest_length
    → AllBelow word_values (write c ks 0 a)
unfolding write
write_below c [] a asks below within = below
write_below c (k ∷ ks) a asks below within =
    let s = second_below k ks (first_free (c + size k) ks 0) asks (omega arith) (omega (arith, first_free_within (c + size k) ks)) in
    write_below (c + size k) ks _ s.1 (header_below c (size k) _ a below (omega arith) s.0) (omega arith)

pub written_below : (ks : List Chunk) (a : List ℕ) → Lawful (length a) ks → AllBelow word_values a → AllBelow word_values (written ks a)
unfolding written
written_below ks a law below =
    write_below first_chunk ks _ law.asks
    (header_below 0 (length a) _ a below (omega (arith, law)) (omega (arith, law, first_free_within first_chunk ks))) (omega (arith, law))
