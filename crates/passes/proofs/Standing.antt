-- A chunk in its place: what the code reads there.
use mathlib.Core.Path.{◌≡◌}
use mathlib.Core.Bool.{true}
use mathlib.Core.List.{List, ◌∷◌, ◌++◌}
use Prim.Native.Nat.{ℕ, ◌+◌, ◌%◌, ◌≤◌, ◌<◌}
use native.Mathlib.Omega.{arith}
use lib.ListN.{length, get_or}
use borrow.Author.Tests.{le-leb}
use Rattle.layout.specs.Numbers.{first_chunk, list_word, least_size, greatest_length, live_mark}
use Rattle.layout.specs.Chunks.{Chunk, live, size, total, first_free, second}
use Rattle.layout.specs.Walk.{is_live, asked_in}
use Rattle.layout.specs.Links.{link_at, free_list, Chain}
use Rattle.layout.proofs.Holds.{Sizes, holds_split, sizes_split, total_append}
use Rattle.layout.proofs.Linked.{link_at_below}
use Rattle.layout.proofs.Chain.{chain_behind, chain_first}
use Rattle.layout.proofs.Written.{Arena}
use Rattle.layout.proofs.Round.{sound_chunks}
use Rattle.passes.specs.Places.{Placed}

-- where the chunk starts
pub placed_at : {a : List ℕ} {pre : List Chunk} {k : Chunk} {post : List Chunk} {link chunk : ℕ} → Placed a pre k post link chunk
    → chunk ≡ first_chunk + total pre
placed_at s = omega (arith, s.stands.number_is)

-- what the words say of a chunk that stands at `chunk`
pub record Reads (a : List ℕ) (pre : List Chunk) (k : Chunk) (post : List Chunk) (link chunk : ℕ) : Type 0 where
  pub arena : Arena a (pre ++ k ∷ post)
  pub at_is : chunk ≡ first_chunk + total pre
  pub size_is : get_or a chunk 0 ≡ size k
  pub second_is : get_or a (chunk + 1) 0 ≡ second k (first_free (chunk + size k) post 0)
  pub leads : Chain a link (free_list chunk (k ∷ post))
  pub names : get_or a link 0 ≡ first_free chunk (k ∷ post) 0
  pub even : size k % 2 ≡ 0
  pub least : least_size ≤ size k
  pub below : link < chunk
  pub low : first_chunk ≤ chunk
  pub fills : chunk + size k + total post ≡ length a
  pub most : length a ≤ greatest_length
  pub sizes_before : Sizes pre
  pub sizes_after : Sizes post

pub reads : (a : List ℕ) (pre : List Chunk) (k : Chunk) (post : List Chunk) (link chunk : ℕ) → Placed a pre k post link chunk
    → Reads a pre k post link chunk
reads a pre k post link chunk s =
    let r : Arena a (pre ++ k ∷ post) = rw s.stands.same at (sound_chunks a s.is_sound) in
    let c = placed_at s in
    let z = sizes_split pre (k ∷ post) r.law.sizes in
    let zk : (size k % 2 ≡ 0) × (least_size ≤ size k) × Sizes post = z.1 in
    let h = holds_split a first_chunk pre (k ∷ post) 0 chunk c r.linked.1 in
    let l : Chain a link (free_list chunk (k ∷ post)) = rw s.link_is (chain_behind a pre (k ∷ post) chunk r c) in
    let n : first_chunk + (total pre + (size k + total post)) ≡ length a = simp total_append at r.law.fills in
    let b : link_at list_word first_chunk pre < first_chunk + total pre = link_at_below list_word first_chunk pre z.0 (omega arith) in
    record {
      arena = r;
      at_is = c;
      size_is = h.1.0;
      second_is = h.1.1;
      leads = l;
      names = chain_first a link chunk (k ∷ post) l;
      even = zk.0;
      least = zk.1;
      below = omega (arith, s.link_is, c);
      low = omega (arith, c);
      fills = omega (arith, c);
      most = r.law.most;
      sizes_before = z.0;
      sizes_after = zk.2;
    }

-- a live chunk's second word says so, and what was asked for
pub reads_asked : {a : List ℕ} {pre : List Chunk} {s asked : ℕ} {post : List Chunk} {link chunk : ℕ} → Reads a pre (live s asked) post link chunk
    → (is_live (get_or a (chunk + 1) 0) ≡ true) × (asked_in (get_or a (chunk + 1) 0) ≡ asked)
reads_asked {a} {chunk = chunk} r = (le-leb live_mark (get_or a (chunk + 1) 0) (omega (arith, r.second_is)), omega (arith, r.second_is))
