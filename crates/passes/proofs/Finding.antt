-- What the searches found: the free chunk that was picked for a need, and the block that a number names.
use mathlib.Core.Path.{◌≡◌, refl, ap, ◌∙◌}
use mathlib.Core.Bool.{true}
use mathlib.Core.List.{List}
use Prim.Native.Nat.{ℕ, ◌+◌, ◌≤◌}
use native.Mathlib.Omega.{arith}
use Rattle.std.specs.Prelude.{Option, None, Some, MatchOption}
use Rattle.std.proofs.lemmas.Option.{same_Some}
use Rattle.layout.specs.Numbers.{first_chunk, header_words}
use Rattle.layout.specs.Chunks.{Chunk, free, live}
use Rattle.layout.specs.Walk.{sound, chunks_of}
use Rattle.rules.specs.Spots.{Spot, nowhere, at, lowest, held}
use Rattle.rules.specs.Fits.{fits_from, or_else_at, first_fit_policy, next_fit_policy}
use Rattle.rules.specs.Picks.{Picks, no_gap, a_gap}
use Rattle.rules.proofs.Searches.{BlockSearch, no_block, a_block, block_search}
use Rattle.passes.specs.Places.{place_at, place_of, Placed}
use Rattle.passes.specs.declared.places.Place.{Place}

-- a place, by its two words
same_place : {link chunk link' chunk' : ℕ} → Some (place_at link chunk) ≡ Some (place_at link' chunk') → (link ≡ link') × (chunk ≡ chunk')
same_place e =
    let p = same_Some _ _ e in
    (ap (λ (x : Place). x.link) p, ap (λ (x : Place). x.chunk) p)

-- a spot is that of the free chunk which starts at `chunk`, and has the need
abbrev pub FoundGap : Spot → List ℕ → ℕ → ℕ → ℕ → Type 0
FoundGap spot a need link chunk =
    (pre : List Chunk) × (s : ℕ) × (post : List Chunk) × (spot ≡ at pre (free s) post) × Placed a pre (free s) post link chunk × (need ≤ s)

pub found_gap : (a : List ℕ) (need : ℕ) (spot : Spot) → Picks (chunks_of a) need spot → (link chunk : ℕ) → sound a ≡ true
    → Some (place_at link chunk) ≡ place_of spot → FoundGap spot a need link chunk
unfolding place_of
found_gap a need spot (no_gap h) link chunk e p = absurd (let z : ◌≡◌ {A = ℕ} 0 1 = cc in omega arith)
found_gap a need spot (a_gap pre s post (same, enough)) link chunk e p =
    let (l, c) = same_place p in
    (pre, s, post, refl, record { is_sound = e; stands = record { same = same; number_is = omega arith }; link_is = l }, enough)

-- block `b` is the live chunk that starts at `chunk`
abbrev pub FoundBlock : List ℕ → ℕ → ℕ → ℕ → Type 0
FoundBlock a b link chunk =
    (pre : List Chunk) × (s : ℕ) × (asked : ℕ) × (post : List Chunk) × (held b (chunks_of a) ≡ at pre (live s asked) post)
    × Placed a pre (live s asked) post link chunk × (chunk + header_words ≡ b)

pub found_block : (a : List ℕ) (b link chunk : ℕ) → sound a ≡ true → Some (place_at link chunk) ≡ place_of (held b (chunks_of a)) → FoundBlock a b link chunk
unfolding place_of
found_block a b link chunk e q = go (block_search a b) refl q
  where
    go : {spot : Spot} → BlockSearch a b spot → held b (chunks_of a) ≡ spot → Some (place_at link chunk) ≡ place_of spot → FoundBlock a b link chunk
    go (no_block h) is p = absurd (let z : ◌≡◌ {A = ℕ} 0 1 = cc in omega arith)
    go (a_block pre s asked post at_b) is p =
        let (l, c) = same_place p in
        let n = at_b.number_is in
        (pre, s, asked, post, is, record { is_sound = e; stands = record { same = at_b.same; number_is = omega arith }; link_is = l }, omega arith)

pub found_nowhere : (spot : Spot) → None ≡ place_of spot → spot ≡ nowhere
unfolding place_of
found_nowhere nowhere e = refl
found_nowhere (at pre k post) e = cc

-- ---- next fit

module _ (rover need : ℕ) (ks : List Chunk) where
  -- from the rover on a chunk was found
  pub found_from_rover : (link chunk : ℕ) → Some (place_at link chunk) ≡ place_of (lowest (fits_from rover need) first_chunk ks)
      → Some (place_at link chunk) ≡ place_of (next_fit_policy rover need ks)
  unfolding place_of
  found_from_rover link chunk = go (lowest (fits_from rover need) first_chunk ks)
    where
      go : (spot : Spot) → Some (place_at link chunk) ≡ place_of spot → Some (place_at link chunk) ≡ place_of (or_else_at spot (first_fit_policy need ks))
      go nowhere e = absurd (let z : ◌≡◌ {A = ℕ} 0 1 = cc in omega arith)
      go (at pre k post) e = e

  -- none was found there, so once round it is the lowest
  pub found_round : None ≡ place_of (lowest (fits_from rover need) first_chunk ks) → first_fit_policy need ks ≡ next_fit_policy rover need ks
  found_round e = rw (found_nowhere _ e)

  -- what was found from the rover on or, where none was found there, what `round` says
  pub found_next : (from : Option Place) {result : Option Place} (round : Type 0) → from ≡ place_of (lowest (fits_from rover need) first_chunk ks)
      → (round → result ≡ place_of (first_fit_policy need ks)) → MatchOption from round (λ p. result ≡ Some p)
      → result ≡ place_of (next_fit_policy rover need ks)
  found_next None round e first m = first m ∙ ap place_of (found_round e)
  found_next (Some p) round e first m = m ∙ found_from_rover p.link p.chunk e
