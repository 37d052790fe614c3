-- A need is taken from a free chunk: what is read of the chunk, and the stores that take the need.
use mathlib.Core.Path.{refl, sym}
use mathlib.Core.List.{List, [], ◌∷◌}
use Prim.Native.Nat.{ℕ, ◌+◌, ◌-◌, ◌≤◌, ◌<◌}
use native.Mathlib.Omega.{arith}
use lib.ListN.{length, get_or, set}
use Rattle.layout.specs.Numbers.{least_size, least_split, greatest_length, live_mark}
use Rattle.layout.specs.Chunks.{Chunk, free, live, header, write}
use Rattle.layout.proofs.Holds.{first_free_within}
use Rattle.layout.proofs.Chain.{chain_next}
use Rattle.layout.proofs.Replace.{replaced, replaced_same}
use Rattle.rules.specs.Rooms.{Needed}
use Rattle.rules.proofs.Remainder.{splits_off, takes_all}
use Rattle.passes.specs.Places.{Placed, FitsAt}
use Rattle.passes.proofs.Standing.{reads}
use Rattle.stores.specs.Taken.{Took}

-- ---- the words of a free chunk that fits: its size, and where the next free one starts

pub record Gap (a : List ℕ) (link chunk need w : ℕ) : Type 0 where
  pub enough : need ≤ get_or a chunk 0
  pub least : least_size ≤ need
  pub below : link < chunk
  pub inside : chunk + get_or a chunk 0 ≤ length a
  pub most : length a ≤ greatest_length
  pub next_inside : get_or a (chunk + 1) 0 ≤ length a
  pub asked_small : w ≤ greatest_length

pub gap : (a : List ℕ) (link chunk need w : ℕ) → FitsAt a link chunk need w → Gap a link chunk need w
gap a link chunk need w (pre, s, post, st, fits, m) =
    let r = reads a pre (free s) post link chunk st in
    let n = first_free_within (chunk + s) post in
    let named = chain_next a link chunk s post r.leads in
    record {
      enough = omega arith;
      least = omega arith;
      below = omega arith;
      inside = omega arith;
      most = omega arith;
      next_inside = omega arith;
      asked_small = omega (arith, m.holds, m.most);
    }

-- ---- the stores

module _ {a : List ℕ} {pre : List Chunk} {s : ℕ} {post : List Chunk} {link chunk : ℕ} (need w : ℕ) (st : Placed a pre (free s) post link chunk) where
  -- too few words would be over: the chunk is taken whole
  pub took_whole : get_or a chunk 0 - need < least_split
      → Took a pre s post need w (record { chunk = chunk; words = get_or a chunk 0 })
      (header chunk (get_or a chunk 0) (live_mark + w) (set a link (get_or a (chunk + 1) 0)))
  unfolding write
  took_whole few =
      let r = reads a pre (free s) post link chunk st in
      let no = takes_all need s (omega (arith, r.size_is)) in
      record {
        starts = rw no (omega (arith, r.at_is));
        has = rw no r.size_is;
        leaves = rw (no, r.size_is, chain_next a link chunk s post r.leads, st.link_is)
            (sym (replaced a pre (free s ∷ []) (live s w ∷ []) post chunk (chunk + s) r.arena r.at_is (omega arith)
            (r.even, r.least, tt) refl));
      }

  pub took_split : Needed need w → need ≤ get_or a chunk 0 → least_split ≤ get_or a chunk 0 - need
      → Took a pre s post need w (record { chunk = chunk + (get_or a chunk 0 - need); words = need })
      (header (chunk + (get_or a chunk 0 - need)) need (live_mark + w) (header chunk (get_or a chunk 0 - need) (get_or a (chunk + 1) 0) a))
  unfolding write
  took_split d enough over =
      let r = reads a pre (free s) post link chunk st in
      let yes = splits_off need s (omega (arith, r.size_is)) in
      record {
        starts = rw yes (omega (arith, r.at_is, r.size_is));
        has = rw yes;
        leaves = rw (yes, r.size_is, chain_next a link chunk s post r.leads)
            (sym (
            replaced_same a pre (free s ∷ []) (free (s - need) ∷ live need w ∷ []) post chunk (chunk + s) r.arena r.at_is (omega arith)
            (omega (arith, d.even, r.size_is), omega (arith, r.size_is), (d.even, d.least, tt)) (omega (arith, r.size_is)) refl));
      }
