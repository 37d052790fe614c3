-- What the search for a block comes to: the live chunk that a number names, or none.
use mathlib.Core.Path.{◌≡◌, refl, ap}
use mathlib.Core.Logic.{◌↔◌}
use mathlib.Core.Bool.{Bool, true, false, false≢true}
use mathlib.Core.List.{List, [], ◌∷◌, ◌++◌}
use Prim.Native.Nat.{ℕ, ◌+◌, ◌≤◌, ◌<◌}
use native.Mathlib.Omega.{arith}
use lib.Dec.{leb}
use borrow.Author.Tests.{eqb-true, eqb-false, leb-true, leb-false, eq-eqb, ne_eqb}
use Rattle.layout.specs.Numbers.{first_chunk, header_words}
use Rattle.layout.specs.Chunks.{Chunk, free, live, total}
use Rattle.layout.specs.Walk.{sound, chunks_of}
use Rattle.layout.proofs.Holds.{Sizes, sizes_split}
use Rattle.layout.proofs.Round.{sound_chunks}
use Rattle.rules.specs.Spots.{Spot, nowhere, at, is_block, held}
use Rattle.rules.specs.Stands.{Stands, NoBlock, NoGap}
use Rattle.rules.proofs.Lowest.{Missed, lowest_at, lowest_hit, none_passes}

-- block `b` is the live chunk of `s` words between `pre` and `post`, and `asked` words were asked for
abbrev pub BlockAt : List ℕ → ℕ → List Chunk → ℕ → ℕ → List Chunk → Type 0
BlockAt a b pre s asked post = Stands (chunks_of a) pre (live s asked) post b

-- in a sound arena a block's chunk and those behind it have lawful sizes
pub block_sizes : (a : List ℕ) (b : ℕ) (pre : List Chunk) (s asked : ℕ) (post : List Chunk) → sound a ≡ true → BlockAt a b pre s asked post
    → Sizes (live s asked ∷ post)
block_sizes a b pre s asked post e is = (sizes_split pre (live s asked ∷ post) (rw is.same at (sound_chunks a e).law.sizes)).1

-- every free chunk of `ks` has fewer than `need` words
abbrev pub FreeShorter : ℕ → List Chunk → Type 0
FreeShorter need ks = (pre : List Chunk) (s : ℕ) (post : List Chunk) → ks ≡ pre ++ free s ∷ post → s < need

-- which is to say that there is no gap
pub no_gap_shorter : (a : List ℕ) (need : ℕ) → NoGap a need ↔ FreeShorter need (chunks_of a)
no_gap_shorter a need = (
  λ none pre s post same. shorter need s (λ enough. none pre s post (same, enough)),
  λ f pre s post gap. omega
      (arith, f pre s post gap.0, gap.1),
)
  where
    shorter : (need s : ℕ) → (need ≤ s → ⊥) → s < need
    shorter need s not = go (leb need s) refl
      where
        go : (fits : Bool) → leb need s ≡ fits → s < need
        go true e = absurd (not (leb-true need s e))
        go false e = leb-false need s e

pub free_shorter_tail : (need : ℕ) (k : Chunk) (ks : List Chunk) → FreeShorter need (k ∷ ks) → FreeShorter need ks
free_shorter_tail need k ks f pre s post e = f (k ∷ pre) s post (ap (◌∷◌ k) e)

-- ---- the search for a block

pub data BlockSearch (a : List ℕ) (b : ℕ) : Spot → Type 0 where
  no_block : NoBlock a b → BlockSearch a b nowhere
  a_block : (pre : List Chunk) (s asked : ℕ) (post : List Chunk) → BlockAt a b pre s asked post → BlockSearch a b (at pre (live s asked) post)

pub block_search : (a : List ℕ) (b : ℕ) → BlockSearch a b (held b (chunks_of a))
block_search a b = go (held b (chunks_of a)) refl
  where
    go : (spot : Spot) → held b (chunks_of a) ≡ spot → BlockSearch a b spot
    go nowhere e = no_block (λ (pre, s, asked, post, is). eqb-false _ b (none_passes (is_block b) (chunks_of a) pre (live s asked) post e is.same)
        is.number_is)
    go (at pre (free s) post) e = absurd (false≢true (lowest_hit (is_block b) first_chunk (chunks_of a) pre (free s) post e).2)
    go (at pre (live s asked) post) e =
        let h = lowest_hit (is_block b) first_chunk (chunks_of a) pre (live s asked) post e in
        a_block pre s asked post (record { same = h.0; number_is = eqb-true _ b h.2 })

pub no_block_held : (a : List ℕ) (b : ℕ) → NoBlock a b → held b (chunks_of a) ≡ nowhere
no_block_held a b none = go (block_search a b)
  where
    go : {spot : Spot} → BlockSearch a b spot → spot ≡ nowhere
    go (no_block h) = refl
    go (a_block pre s asked post is) = absurd (none (pre, s, asked, post, is))

-- none of the chunks that end below `b`, or there, is block `b`
pub missed_below : (b c : ℕ) (ks : List Chunk) → Sizes ks → c + total ks ≤ b → Missed (is_block b) c ks
missed_below b c [] z e = tt
missed_below b c (free s ∷ ks) z e = (refl, missed_below b (c + s) ks z.2 (omega arith))
missed_below b c (live s asked ∷ ks) z e = (ne_eqb (c + header_words) b (omega arith), missed_below b (c + s) ks z.2 (omega arith))

-- nor is one that begins above
pub missed_above : (b c : ℕ) (ks : List Chunk) → b < c + header_words → Missed (is_block b) c ks
missed_above b c [] h = tt
missed_above b c (free s ∷ ks) h = (refl, missed_above b (c + s) ks (omega arith))
missed_above b c (live s asked ∷ ks) h = (ne_eqb (c + header_words) b (omega arith), missed_above b (c + s) ks (omega arith))

-- a live chunk is found by its number
pub held_at : (ks pre : List Chunk) (s asked : ℕ) (post : List Chunk) (b : ℕ) → Sizes ks → Stands ks pre (live s asked) post b → held b ks ≡ at pre (live s asked) post
held_at ks pre s asked post b z st =
    let y : Sizes (pre ++ live s asked ∷ post) = rw st.same at z in
    rw st.same
    (lowest_at (is_block b) first_chunk pre (live s asked) post (first_chunk + total pre) refl
    (missed_below b first_chunk pre (sizes_split pre (live s asked ∷ post) y).0 (omega (arith, st.number_is))) (eq-eqb _ _ st.number_is))

pub block_held : (a : List ℕ) (b : ℕ) (pre : List Chunk) (s asked : ℕ) (post : List Chunk) → sound a ≡ true → BlockAt a b pre s asked post
    → held b (chunks_of a) ≡ at pre (live s asked) post
block_held a b pre s asked post e is = held_at (chunks_of a) pre s asked post b (sound_chunks a e).law.sizes is

-- there is one block of a number
pub one_block : (a : List ℕ) (b : ℕ) (pre pre' : List Chunk) (s s' asked asked' : ℕ) (post post' : List Chunk) → sound a ≡ true → BlockAt a b pre s asked post
    → BlockAt a b pre' s' asked' post' → (s' ≡ s) × (post' ≡ post)
one_block a b pre pre' s s' asked asked' post post' e is is' =
    let held = block_held a b pre s asked post e is in
    let held' = block_held a b pre' s' asked' post' e is' in
    (cc, cc)
