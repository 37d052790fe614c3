-- A list of chunks in which a middle is replaced, and what the ledger of its blocks becomes: a block enters, leaves, or
-- is replaced.
use mathlib.Core.Path.{◌≡◌, refl, ap}
use mathlib.Core.Bool.{Bool, true, false, cond}
use mathlib.Core.List.{List, [], ◌∷◌, ◌++◌}
use Prim.Native.Nat.{ℕ, ◌+◌, ◌-◌, ◌≤◌}
use native.Mathlib.Omega.{arith}
use lib.Dec.{leb}
use Rattle.layout.specs.Numbers.{first_chunk, header_words}
use Rattle.layout.specs.Chunks.{Chunk, free, live, total}
use Rattle.layout.proofs.Holds.{Sizes}
use Rattle.rules.specs.Rules.{splits, taken, cut, trim}
use Rattle.rules.proofs.Rooms.{room_tail}
use Rattle.ledger.specs.Ledger.{Entry, enter, strike, entry_at, blocks_from}
use Rattle.ledger.proofs.Blocks.{blocks_around, blocks_laid}
use Rattle.ledger.proofs.Entries.{Laid, enter_at, strike_at}

-- ---- the blocks of what a rule puts in

pub cut_blocks : (need w s d : ℕ) → blocks_from d (cut need w s) ≡ entry_at (d + (s - taken need s)) (taken need s) w ∷ []
cut_blocks need w s d = go (splits need s)
  where
    go : (split : Bool) → blocks_from d (cond split (free (s - need) ∷ live need w ∷ []) (live s w ∷ [])) ≡ entry_at (d + (s - cond split need s))
        (cond split need s) w ∷ []
    go true = refl
    go false = ap (λ (c : ℕ). entry_at c s w ∷ []) (omega arith)

pub trim_blocks : (keep w s d : ℕ) → blocks_from d (trim keep w s) ≡ entry_at d keep w ∷ []
trim_blocks keep w s d = ap (◌∷◌ (entry_at d keep w)) (go (leb s keep))
  where
    go : (all : Bool) → blocks_from (d + keep) (cond all [] (free (s - keep) ∷ [])) ≡ []
    go true = refl
    go false = refl

-- a free chunk right after a block has none
pub tail_blocks : (d : ℕ) (post : List Chunk) → blocks_from d (room_tail post) ≡ []
tail_blocks d [] = refl
tail_blocks d (free t ∷ ks) = refl
tail_blocks d (live t asked ∷ ks) = refl

-- ---- a middle that is replaced: it lies between the words `d` and `e`, and `pre` and `post` stay

module _ (pre post : List Chunk) (z : Sizes pre) (y : Sizes post) (d e : ℕ) (at : d ≡ first_chunk + total pre) where
  -- the entries below the middle, and those above it
  under : Laid first_chunk d (blocks_from first_chunk pre)
  under = blocks_laid first_chunk pre d at z

  over : Laid e (e + total post) (blocks_from e post)
  over = blocks_laid e post (e + total post) refl y

  -- it had no block, and is given one
  pub enters : (old new : List Chunk) (f : Entry) → e ≡ d + total old → e ≡ d + total new → blocks_from d old ≡ [] → blocks_from d new ≡ f ∷ []
      → d + header_words ≤ f.block → f.block ≤ e
      → enter f (blocks_from first_chunk (pre ++ (old ++ post))) ≡ blocks_from first_chunk (pre ++ (new ++ post))
  enters old new f to to' none one lo hi =
      rw (blocks_around first_chunk pre old post d e at to, none, blocks_around first_chunk pre new post d e at to', one)
      (enter_at first_chunk d (blocks_from first_chunk pre) under e (e + total post) (blocks_from e post) over f lo hi)

  -- it had a block, and is left without
  pub leaves : (old new : List Chunk) (f : Entry) → e ≡ d + total old → e ≡ d + total new → blocks_from d old ≡ f ∷ [] → blocks_from d new ≡ []
      → d + header_words ≤ f.block → f.block ≤ e
      → strike f.block (blocks_from first_chunk (pre ++ (old ++ post))) ≡ blocks_from first_chunk (pre ++ (new ++ post))
  leaves old new f to to' one none lo hi =
      rw (blocks_around first_chunk pre old post d e at to, one, blocks_around first_chunk pre new post d e at to', none)
      (strike_at first_chunk d (blocks_from first_chunk pre) under e (e + total post) (blocks_from e post) over f lo hi)

  -- it had a block, and has another
  pub replaces : (old new : List Chunk) (f g : Entry) → e ≡ d + total old → e ≡ d + total new → blocks_from d old ≡ f ∷ [] → blocks_from d new ≡ g ∷ []
      → d + header_words ≤ f.block → f.block ≤ e → d + header_words ≤ g.block → g.block ≤ e
      → enter g (strike f.block (blocks_from first_chunk (pre ++ (old ++ post)))) ≡ blocks_from first_chunk (pre ++ (new ++ post))
  replaces old new f g to to' one other lo hi lo' hi' =
      rw (
        blocks_around first_chunk pre old post d e at to,
        one,
        strike_at first_chunk d (blocks_from first_chunk pre) under e (e + total post) (blocks_from e post) over f lo hi,
        blocks_around first_chunk pre new post d e at to',
        other,
      )
      (enter_at first_chunk d (blocks_from first_chunk pre) under e (e + total post) (blocks_from e post) over g lo' hi')
