-- A need is granted from the free chunk that was picked.
use mathlib.Core.Path.{◌≡◌, refl}
use mathlib.Core.List.{List}
use Prim.Native.Nat.{ℕ, ◌≤◌}
use native.Mathlib.Omega.{arith}
use Rattle.std.specs.Prelude.{None, Some}
use Rattle.layout.specs.Numbers.{greatest_length}
use Rattle.layout.specs.Chunks.{Chunk, free}
use Rattle.rules.specs.Spots.{Spot, at}
use Rattle.rules.proofs.Remainder.{cut_numbers}
use Rattle.passes.specs.Places.{place_of, Placed}
use Rattle.passes.proofs.Standing.{reads}
use Rattle.passes.proofs.Finding.{found_nowhere}
use Rattle.stores.specs.Taken.{Took}
use Rattle.stores.specs.declared.taking.Piece.{Piece}
use Rattle.ways.specs.Ways.{Follows, allotting, grant_of}

-- the live chunk that was taken is in the arena
pub took_small : {a : List ℕ} {pre : List Chunk} {s : ℕ} {post : List Chunk} {link chunk need w : ℕ} {piece : Piece} {after : List ℕ}
    → Placed a pre (free s) post link chunk → need ≤ s
    → Took a pre s post need w piece after → (piece.chunk ≤ greatest_length) × (piece.words ≤ greatest_length)
took_small st enough t =
    let r = reads _ _ _ _ _ _ st in
    let within = (cut_numbers _ _ enough).within in
    (omega (arith, t.starts, r.at_is), omega (arith, t.has))

module _ (a : List ℕ) (need w : ℕ) (spot : Spot) where
  pub allot_shut : None ≡ place_of spot → Follows (allotting need w spot a) a None a
  allot_shut e = rw (found_nowhere spot e) (record { answers = refl; leaves = refl })

  pub allot_grants : (pre : List Chunk) (s : ℕ) (post : List Chunk) (piece : Piece) (after : List ℕ)
      → spot ≡ at pre (free s) post → Took a pre s post need w piece after
      → Follows (allotting need w spot a) a (Some (grant_of piece)) after
  allot_grants pre s post piece after is t = rw is (record { answers = rw (t.starts, t.has); leaves = t.leaves })
