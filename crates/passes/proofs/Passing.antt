-- A pass over the chunks of a sound arena: what is left of them, and what the words say of the next one.
use mathlib.Core.Path.{◌≡◌}
use mathlib.Core.Bool.{true, false}
use mathlib.Core.List.{List, [], ◌∷◌}
use Prim.Native.Nat.{ℕ, ◌+◌, ◌%◌, ◌≤◌, ◌<◌}
use native.Mathlib.Omega.{arith}
use lib.ListN.{length, get_or}
use borrow.Author.Tests.{leb-true, leb-false}
use Rattle.layout.specs.Numbers.{first_chunk, least_size, greatest_length, live_mark}
use Rattle.layout.specs.Chunks.{Chunk, free, live, size, total}
use Rattle.layout.specs.Walk.{is_live, sound, chunks_of}
use Rattle.layout.proofs.Holds.{Sizes, Holds, link_unmarked}
use Rattle.layout.proofs.Round.{sound_chunks}

-- the chunks `ks` are left: they begin at word `chunk` and fill the arena
pub record Left (a : List ℕ) (chunk : ℕ) (ks : List Chunk) : Type 0 where
  pub heads : Holds a chunk ks 0
  pub sizes : Sizes ks
  pub fills : chunk + total ks ≡ length a
  pub most : length a ≤ greatest_length

pub all_left : (a : List ℕ) → sound a ≡ true → Left a first_chunk (chunks_of a)
all_left a e =
    let r = sound_chunks a e in
    record { heads = r.linked.1; sizes = r.law.sizes; fills = r.law.fills; most = r.law.most }

module _ (a : List ℕ) (chunk : ℕ) where
  -- the first of them is passed
  pub past : (k : Chunk) (ks : List Chunk) → Left a chunk (k ∷ ks) → Left a (chunk + size k) ks
  past k ks l = record { heads = l.heads.2; sizes = l.sizes.2; fills = omega arith; most = l.most }

  -- ---- the chunk that stands at `chunk`

  pub size_here : (ks : List Chunk) → Left a chunk ks → chunk < length a → (least_size ≤ get_or a chunk 0) × (chunk + get_or a chunk 0 ≤ length a)
  size_here [] l h = absurd (omega arith)
  size_here (k ∷ ks) l h =
      let z : (size k % 2 ≡ 0) × (least_size ≤ size k) × Sizes ks = l.sizes in
      let s : get_or a chunk 0 ≡ size k = l.heads.0 in
      omega arith

  pub live_here : (ks : List Chunk) → Left a chunk ks → chunk < length a → is_live (get_or a (chunk + 1) 0) ≡ true
      → (asked : ℕ) × (ls : List Chunk) × (ks ≡ live (get_or a chunk 0) asked ∷ ls)
  live_here [] l h e = absurd (omega arith)
  live_here (live s asked ∷ ks) l h e = (asked, ks, rw l.heads.0)
  live_here (free s ∷ ks) l h e =
      absurd (omega (arith, link_unmarked (chunk + s) ks (omega arith), l.heads.1, leb-true live_mark (get_or a (chunk + 1) 0) e))

  pub free_here : (ks : List Chunk) → Left a chunk ks → chunk < length a → is_live (get_or a (chunk + 1) 0) ≡ false
      → (ls : List Chunk) × (ks ≡ free (get_or a chunk 0) ∷ ls)
  free_here [] l h n = absurd (omega arith)
  free_here (live s asked ∷ ks) l h n = absurd (omega (arith, l.heads.1, leb-false live_mark (get_or a (chunk + 1) 0) n))
  free_here (free s ∷ ks) l h n = (ks, rw l.heads.0)
