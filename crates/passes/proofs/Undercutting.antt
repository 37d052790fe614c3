-- The search for the smallest chunk that fits, step by step: along the free list, each chunk that undercuts the best so
-- far takes its place.
use mathlib.Core.Path.{◌≡◌, refl, sym, ◌∙◌}
use mathlib.Core.Bool.{Bool, true, false, cond, ◌&&◌}
use mathlib.Core.List.{List, [], ◌∷◌, ◌++◌}
use Prim.Native.Nat.{ℕ, ◌+◌, ◌≤◌, ◌<◌}
use native.Mathlib.Omega.{arith}
use lib.Dec.{leb, ltb}
use lib.ListN.{length}
use borrow.Author.Tests.{leb-true, leb-false, lt-ltb, le-ltb, ltb-true, ltb-false}
use Rattle.std.specs.Prelude.{Option, None, Some}
use Rattle.layout.specs.Numbers.{first_chunk, list_word}
use Rattle.layout.specs.Chunks.{Chunk, free, live, size}
use Rattle.layout.specs.Walk.{sound, chunks_of}
use Rattle.layout.specs.Links.{free_list, Chain}
use Rattle.layout.proofs.Chain.{chain}
use Rattle.layout.proofs.Round.{sound_chunks, sound_around}
use Rattle.rules.specs.Spots.{Spot, nowhere, at, behind}
use Rattle.rules.specs.Fits.{tighter, best_fit_policy}
use Rattle.rules.specs.Picks.{Picks, no_gap, a_gap}
use Rattle.rules.proofs.BestFit.{best_fitting}
use Rattle.passes.specs.Places.{place_at, place_of}
use Rattle.passes.specs.declared.places.Place.{Place}
use Rattle.passes.proofs.Searching.{place_from, place_from_lem, place_here, place_past_live, place_past_free}

-- a chunk of `s` words fits, and has fewer words than the best so far
abbrev pub undercuts : ℕ → ℕ → ℕ → Bool
undercuts need least s = leb need s && ltb s least

-- what the search comes to from `list` on, where `best` has `least` words; word `link` names the first of the list
abbrev best_of : ℕ → ℕ → Option Place → ℕ → List (ℕ × ℕ) → Option Place
best_of need least best link [] = best
best_of need least best link ((c, s) ∷ list) =
    cond (undercuts need least s) (best_of need s (Some (place_at link c)) (c + 1) list) (best_of need least best (c + 1) list)

-- the spot that best fit picks, where it undercuts the best so far
abbrev or_best : ℕ → Option Place → ℕ → ℕ → Spot → Option Place
or_best least best base c nowhere = best
or_best least best base c (at pre k post) = cond (ltb (size k) least) (place_from base c (at pre k post)) best

-- past a live chunk, and past a free one that is not picked
or_best_live : (least : ℕ) (best : Option Place) (base c s asked : ℕ) (spot : Spot)
    → or_best least best base c (behind (live s asked) spot) ≡ or_best least best base (c + s) spot
or_best_live least best base c s asked nowhere = refl
or_best_live least best base c s asked (at pre k post) = rw (place_past_live base c s asked (at pre k post))

or_best_free : (least : ℕ) (best : Option Place) (base c s : ℕ) (spot : Spot)
    → or_best least best base c (behind (free s) spot) ≡ or_best least best (c + 1) (c + s) spot
or_best_free least best base c s nowhere = refl
or_best_free least best base c s (at pre k post) = rw (place_past_free base c s (at pre k post))

-- a free chunk that fits: it is the best from then on, where it undercuts the best so far, and is passed otherwise
module _ (least : ℕ) (best : Option Place) (base c s : ℕ) (ks : List Chunk) where
  or_best_taken : s < least → (spot : Spot)
      → or_best s (Some (place_at base c)) (c + 1) (c + s) spot ≡ or_best least best base c (tighter (at [] (free s) ks) (behind (free s) spot))
  or_best_taken under nowhere = rw (lt-ltb s least under, place_here base c (free s) ks)
  or_best_taken under (at pre k post) = go (leb s (size k)) refl
    where
      go : (lower : Bool) → leb s (size k) ≡ lower
          → or_best s (Some (place_at base c)) (c + 1) (c + s) (at pre k post)
          ≡ or_best least best base c (cond lower (at [] (free s) ks) (at (free s ∷ pre) k post))
      go true e =
          let large = leb-true s (size k) e in
          rw (le-ltb (size k) s large, lt-ltb s least under, place_here base c (free s) ks)
      go false e =
          let small = leb-false s (size k) e in
          let less : size k < least = omega arith in
          rw (lt-ltb (size k) s small, lt-ltb (size k) least less, place_past_free base c s (at pre k post))

  or_best_passed : least ≤ s → (spot : Spot)
      → or_best least best (c + 1) (c + s) spot ≡ or_best least best base c (tighter (at [] (free s) ks) (behind (free s) spot))
  or_best_passed over nowhere = rw (le-ltb s least over)
  or_best_passed over (at pre k post) = go (leb s (size k)) refl
    where
      go : (lower : Bool) → leb s (size k) ≡ lower
          → or_best least best (c + 1) (c + s) (at pre k post)
          ≡ or_best least best base c (cond lower (at [] (free s) ks) (at (free s ∷ pre) k post))
      go true e =
          let large = leb-true s (size k) e in
          let more : least ≤ size k = omega arith in
          rw (le-ltb (size k) least more, le-ltb s least over)
      go false e = sym (or_best_free least best base c s (at pre k post))

-- along the free list of `ks`, which begin at word `c`, it comes to what best fit picks
best_listed : (need least : ℕ) (best : Option Place) (base c : ℕ) (ks : List Chunk)
    → best_of need least best base (free_list c ks) ≡ or_best least best base c (best_fit_policy need ks)
unfolding best_fit_policy
best_listed need least best base c [] = refl
best_listed need least best base c (live s asked ∷ ks) =
    best_listed need least best base (c + s) ks ∙ sym (or_best_live least best base c s asked (best_fit_policy need ks))
best_listed need least best base c (free s ∷ ks) =
    go (leb need s) (ltb s least) refl (best_listed need s (Some (place_at base c)) (c + 1) (c + s) ks) (best_listed need least best (c + 1) (c + s) ks)
  where
    go : (enough under : Bool) → ltb s least ≡ under
        → best_of need s (Some (place_at base c)) (c + 1) (free_list (c + s) ks) ≡ or_best s (Some (place_at base c)) (c + 1) (c + s) (best_fit_policy need ks)
        → best_of need least best (c + 1) (free_list (c + s) ks) ≡ or_best least best (c + 1) (c + s) (best_fit_policy need ks)
        → cond (enough && under) (best_of need s (Some (place_at base c)) (c + 1) (free_list (c + s) ks)) (best_of need least best (c + 1) (free_list (c + s) ks))
        ≡ or_best least best base c (tighter (cond enough (at [] (free s) ks) nowhere) (behind (free s) (best_fit_policy need ks)))
    go true true f taken passed = taken ∙ or_best_taken least best base c s ks (ltb-true s least f) (best_fit_policy need ks)
    go true false f taken passed = passed ∙ or_best_passed least best base c s ks (ltb-false s least f) (best_fit_policy need ks)
    go false under f taken passed = passed ∙ sym (or_best_free least best base c s (best_fit_policy need ks))

-- where the best so far fits exactly, none undercuts it
none_undercuts : (need least : ℕ) (best : Option Place) (link : ℕ) (list : List (ℕ × ℕ)) → least ≤ need → best_of need least best link list ≡ best
none_undercuts need least best link [] exact = refl
none_undercuts need least best link ((c, s) ∷ list) exact = go (leb need s) refl (none_undercuts need least best (c + 1) list exact)
  where
    go : (enough : Bool) → leb need s ≡ enough → best_of need least best (c + 1) list ≡ best
        → cond (enough && ltb s least) (best_of need s (Some (place_at link c)) (c + 1) list) (best_of need least best (c + 1) list) ≡ best
    go true e passed =
        let large = leb-true need s e in
        let more : least ≤ s = omega arith in
        rw (le-ltb s least more) passed
    go false e passed = passed

-- the search has yet to follow the links from word `link` on, through `list`; the best so far has `least` words
pub record Undercutting (a : List ℕ) (need least : ℕ) (best : Option Place) (link : ℕ) (list : List (ℕ × ℕ)) : Type 0 where
  pub leads : Chain a link list
  pub inside : link < length a
  pub goes : best_of need least best link list ≡ place_of (best_fit_policy need (chunks_of a))

-- it begins with none, which a chunk as long as the arena would undercut: no chunk is
pub undercut_begins : (a : List ℕ) (need : ℕ) → sound a ≡ true
    → Undercutting a need (length a) None list_word (free_list first_chunk (chunks_of a))
unfolding place_of
undercut_begins a need e =
    let r = sound_chunks a e in
    record {
      leads = chain a (chunks_of a) r;
      inside = omega (arith, r.law.least);
      goes = best_listed need (length a) None list_word first_chunk (chunks_of a) ∙ go (best_fitting need (chunks_of a));
    }
  where
    short : (pre : List Chunk) (s : ℕ) (post : List Chunk) → chunks_of a ≡ pre ++ free s ∷ post → s < length a
    short pre s post same = omega (arith, sound_around a pre (free s) post e same)

    go : {spot : Spot} → Picks (chunks_of a) need spot → or_best (length a) None list_word first_chunk spot ≡ place_of spot
    go (no_gap h) = refl
    go (a_gap pre s post gap) = rw (lt-ltb s (length a) (short pre s post gap.0)) (place_from_lem (at pre (free s) post))

module _ (a : List ℕ) (need least : ℕ) (best : Option Place) (link : ℕ) where
  -- no chunk is left, or none can undercut the best
  pub undercut_ends : Undercutting a need least best link [] → best ≡ place_of (best_fit_policy need (chunks_of a))
  undercut_ends g = g.goes

  pub undercut_exact : (list : List (ℕ × ℕ)) → Undercutting a need least best link list → least ≤ need
      → best ≡ place_of (best_fit_policy need (chunks_of a))
  undercut_exact list g exact = sym (none_undercuts need least best link list exact) ∙ g.goes

  module _ (c s : ℕ) (list : List (ℕ × ℕ)) (g : Undercutting a need least best link ((c, s) ∷ list)) where
    -- the first chunk of the list undercuts the best
    pub undercut_takes : undercuts need least s ≡ true → Undercutting a need s (Some (place_at link c)) (c + 1) list
    undercut_takes t = record { leads = g.leads.4; inside = g.leads.3; goes = rw t at g.goes }

    -- it does not
    pub undercut_passes : undercuts need least s ≡ false → Undercutting a need least best (c + 1) list
    undercut_passes t = record { leads = g.leads.4; inside = g.leads.3; goes = rw t at g.goes }
