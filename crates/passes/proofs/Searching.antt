-- The two searches, step by step: past the chunks below it for a block, along the free list for the first chunk that
-- passes a test.
use mathlib.Core.Path.{◌≡◌, refl, sym, ap, ◌∙◌}
use mathlib.Core.Bool.{Bool, true, false, cond}
use mathlib.Core.List.{List, [], ◌∷◌}
use Prim.Native.Nat.{ℕ, ◌+◌, ◌≤◌, ◌<◌}
use native.Mathlib.Omega.{arith}
use lib.ListN.{length}
use borrow.Author.Tests.{eq-eqb, ne_eqb}
use Rattle.std.specs.Prelude.{Option, None, Some}
use Rattle.layout.specs.Numbers.{first_chunk, list_word, header_words}
use Rattle.layout.specs.Chunks.{Chunk, free, live, total}
use Rattle.layout.specs.Walk.{sound, chunks_of}
use Rattle.layout.specs.Links.{link_at, free_list, Chain}
use Rattle.layout.proofs.Chain.{chain}
use Rattle.layout.proofs.Round.{sound_chunks}
use Rattle.rules.specs.Spots.{Spot, nowhere, at, behind, lowest, is_block, held}
use Rattle.rules.proofs.Lowest.{missed_nowhere}
use Rattle.rules.proofs.Searches.{missed_below, missed_above}
use Rattle.passes.specs.Places.{place_at, place_of}
use Rattle.passes.specs.declared.places.Place.{Place}
use Rattle.passes.proofs.Passing.{Left, all_left, past}

-- ---- a spot among chunks that begin at `c`, where word `base` names the first free one, as a search answers it

unfoldable pub place_from : ℕ → ℕ → Spot → Option Place
place_from base c nowhere = None
place_from base c (at pre k post) = Some (place_at (link_at base c pre) (c + total pre))

pub place_from_lem : (s : Spot) → place_from list_word first_chunk s ≡ place_of s
unfolding place_from place_of
place_from_lem nowhere = refl
place_from_lem (at pre k post) = refl

pub place_here : (base c : ℕ) (k : Chunk) (post : List Chunk) → place_from base c (at [] k post) ≡ Some (place_at base c)
unfolding place_from
place_here base c k post = ap (λ (d : ℕ). Some (place_at base d)) (omega arith)

pub place_past_live : (base c s asked : ℕ) (spot : Spot) → place_from base c (behind (live s asked) spot) ≡ place_from base (c + s) spot
unfolding place_from
place_past_live base c s asked nowhere = refl
place_past_live base c s asked (at pre k post) = ap (λ (d : ℕ). Some (place_at (link_at base (c + s) pre) d)) (omega arith)

pub place_past_free : (base c s : ℕ) (spot : Spot) → place_from base c (behind (free s) spot) ≡ place_from (c + 1) (c + s) spot
unfolding place_from
place_past_free base c s nowhere = refl
place_past_free base c s (at pre k post) = ap (λ (d : ℕ). Some (place_at (link_at (c + 1) (c + s) pre) d)) (omega arith)

-- ---- past the chunks below it, for block `b`

-- the search has yet to pass `ks`: among them it finds the block, or that there is none
pub record Going (a : List ℕ) (b link chunk : ℕ) (ks : List Chunk) : Type 0 where
  pub left : Left a chunk ks
  pub goes : place_from link chunk (lowest (is_block b) chunk ks) ≡ place_of (held b (chunks_of a))

pub search_begins : (a : List ℕ) (b : ℕ) → sound a ≡ true → Going a b list_word first_chunk (chunks_of a)
search_begins a b e = record { left = all_left a e; goes = place_from_lem (held b (chunks_of a)) }

-- the arena ends below `b`
pub search_in_vain : (a : List ℕ) (b : ℕ) → sound a ≡ true → length a ≤ b → None ≡ place_of (held b (chunks_of a))
unfolding place_of
search_in_vain a b e h =
    let l = all_left a e in
    rw (missed_nowhere (is_block b) first_chunk (chunks_of a) (missed_below b first_chunk (chunks_of a) l.sizes (omega (arith, l.fills))))

module _ (a : List ℕ) (b link chunk : ℕ) where
  -- the chunk at `chunk` is the block
  pub search_stops : (s asked : ℕ) (ks : List Chunk) → Going a b link chunk (live s asked ∷ ks) → chunk + header_words ≡ b
      → Some (place_at link chunk) ≡ place_of (held b (chunks_of a))
  unfolding lowest
  search_stops s asked ks g t = sym (place_here link chunk (live s asked) ks) ∙ (rw (eq-eqb (chunk + header_words) b t) at g.goes)

  -- it is another block
  pub search_past_live : (s asked : ℕ) (ks : List Chunk) → Going a b link chunk (live s asked ∷ ks) → (chunk + header_words ≡ b → ⊥)
      → Going a b link (chunk + s) ks
  unfolding lowest
  search_past_live s asked ks g t =
      record {
        left = past a chunk (live s asked) ks g.left;
        goes = sym (place_past_live link chunk s asked _) ∙ (rw (ne_eqb (chunk + header_words) b t) at g.goes);
      }

  -- it is free
  pub search_past_free : (s : ℕ) (ks : List Chunk) → Going a b link chunk (free s ∷ ks) → Going a b (chunk + 1) (chunk + s) ks
  unfolding lowest
  search_past_free s ks g =
      record { left = past a chunk (free s) ks g.left; goes = sym (place_past_free link chunk s _) ∙ g.goes }

  -- what is left lies above
  pub search_above : (ks : List Chunk) → Going a b link chunk ks → b < chunk + header_words → None ≡ place_of (held b (chunks_of a))
  unfolding place_from
  search_above ks g h = rw (missed_nowhere (is_block b) chunk ks (missed_above b chunk ks h)) at g.goes

-- ---- along the free list, for the first chunk that passes a test

-- the first of a list that passes a test, as a search answers it, with the word that names it; word `link` names the
-- first of the list
abbrev first_of : (ℕ → Chunk → Bool) → ℕ → List (ℕ × ℕ) → Option Place
first_of test link [] = None
first_of test link ((c, s) ∷ list) = cond (test c (free s)) (Some (place_at link c)) (first_of test (c + 1) list)

-- of the free list it is the lowest chunk that passes, if no live chunk does
first_lowest : (test : ℕ → Chunk → Bool) → ((c s asked : ℕ) → test c (live s asked) ≡ false) → (link c : ℕ) (ks : List Chunk)
    → place_from link c (lowest test c ks) ≡ first_of test link (free_list c ks)
unfolding lowest place_from
first_lowest test miss link c [] = refl
first_lowest test miss link c (live s asked ∷ ks) =
    rw (miss c s asked) (place_past_live link c s asked (lowest test (c + s) ks) ∙ first_lowest test miss link (c + s) ks)
first_lowest test miss link c (free s ∷ ks) = go (test c (free s)) refl (first_lowest test miss (c + 1) (c + s) ks)
  where
    go : (passes : Bool) → test c (free s) ≡ passes → place_from (c + 1) (c + s) (lowest test (c + s) ks) ≡ first_of test (c + 1) (free_list (c + s) ks)
        → place_from link c (lowest test c (free s ∷ ks)) ≡ first_of test link (free_list c (free s ∷ ks))
    go true e r = rw e (place_here link c (free s) ks)
    go false e r = rw e (place_past_free link c s (lowest test (c + s) ks) ∙ r)

-- the search has yet to follow the links from word `link` on, through `list`: the first of these that passes is its
-- answer
pub record Seeking (a : List ℕ) (test : ℕ → Chunk → Bool) (link : ℕ) (list : List (ℕ × ℕ)) : Type 0 where
  pub leads : Chain a link list
  pub inside : link < length a
  pub goes : first_of test link list ≡ place_of (lowest test first_chunk (chunks_of a))

pub seek_begins : (a : List ℕ) (test : ℕ → Chunk → Bool) → ((c s asked : ℕ) → test c (live s asked) ≡ false) → sound a ≡ true
    → Seeking a test list_word (free_list first_chunk (chunks_of a))
seek_begins a test miss e =
    let r = sound_chunks a e in
    record {
      leads = chain a (chunks_of a) r;
      inside = omega (arith, r.law.least);
      goes = sym (first_lowest test miss list_word first_chunk (chunks_of a)) ∙ place_from_lem (lowest test first_chunk (chunks_of a));
    }

module _ (a : List ℕ) (test : ℕ → Chunk → Bool) (link c s : ℕ) (list : List (ℕ × ℕ)) (g : Seeking a test link ((c, s) ∷ list)) where
  -- the first chunk of the list passes
  pub seek_stops : test c (free s) ≡ true → Some (place_at link c) ≡ place_of (lowest test first_chunk (chunks_of a))
  seek_stops t = rw t at g.goes

  -- it does not
  pub seek_goes_on : test c (free s) ≡ false → Seeking a test (c + 1) list
  seek_goes_on t = record { leads = g.leads.4; inside = g.leads.3; goes = rw t at g.goes }
