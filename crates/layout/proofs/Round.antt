-- The walk finds the chunks whose headers stand in the words, and no others: what is written is found, and what is
-- found is written.
use mathlib.Core.Path.{◌≡◌, refl, sym, ap, ◌∙◌}
use mathlib.Core.Bool.{Bool, true, false, cond, ◌&&◌}
use mathlib.Core.List.{List, [], ◌∷◌, ◌++◌}
use Prim.Native.Nat.{ℕ, ◌+◌, ◌-◌, ◌%◌, ◌≤◌}
use native.Mathlib.Omega.{arith}
use lib.Dec.{leb, eqb}
use lib.ListN.{length, get_or}
use borrow.Author.Tests.{eqb-true, eq-eqb, ne_eqb, leb-true, le-leb, lt-leb}
use Rattle.layout.specs.Numbers.{first_chunk, list_word, header_words, least_size, least_length, greatest_length, live_mark, lawful}
use Rattle.layout.specs.Chunks.{Chunk, free, live, size, total, first_free, written}
use Rattle.layout.specs.Walk.{Met, end, chunk, nothing, Walked, broken, whole, with_chunk, is_whole, chunks_in, size_fits, is_live, asked_in}
use Rattle.layout.specs.Walk.{second_fits, header_fits, meet, walk_from, walked, sound, chunks_of}
use Rattle.layout.proofs.Bools.{both, lawful_bounds}
use Rattle.layout.proofs.Walking.{from_end, from_nothing, from_chunk, fits_bounds, header_size}
use Rattle.layout.proofs.Holds.{Sizes, AskedOf, Asks, Holds, Spaced, Lawful, link_unmarked, total_append}
use Rattle.layout.proofs.Written.{Arena, written_arena, written_fixed}

-- the words `a` from `c` on are those of `ks`, where the links want the next free chunk at `want`, and `joined` says
-- that a free chunk ends at `c`
pub record Laid (a : List ℕ) (c want : ℕ) (joined : Bool) (ks : List Chunk) : Type 0 where
  pub names : want ≡ first_free c ks 0
  pub heads : Holds a c ks 0
  pub sizes : Sizes ks
  pub asks : Asks ks
  pub fills : c + total ks ≡ length a
  pub spaced : Spaced joined ks

-- ---- what the walk finds stands there

-- a size that may stand at word `c`
abbrev Fits : ℕ → ℕ → ℕ → Type 0
Fits n c s = (s % 2 ≡ 0) × (least_size ≤ s) × (s ≤ n - c)

fits_true : (n c s : ℕ) → size_fits n c s ≡ true → Fits n c s
fits_true n c s e =
    let b = fits_bounds n c s e in
    (eqb-true (s % 2) 0 (both (eqb (s % 2) 0) (leb least_size s && leb s (n - c)) e).0, b.0, b.1)

-- a second word that says live, and what was asked for
abbrev Live : ℕ → ℕ → Type 0
Live s second = (second ≡ live_mark + asked_in second) × AskedOf s (asked_in second)

live_true : (s second : ℕ) → is_live second ≡ true → second_fits s second ≡ true → Live s second
live_true s second e f =
    let marked = leb-true live_mark second e in
    let p = both (leb 1 (asked_in second)) (leb (asked_in second) (s - header_words)) (rw e at f) in
    (omega arith, record { some = leb-true _ _ p.0; held = leb-true _ _ p.1 })

-- the facts behind what the walk meets
pub data Told (a : List ℕ) (c want : ℕ) (joined : Bool) : Met → Type 0 where
  at_end : c ≡ length a → want ≡ 0 → Told a c want joined end
  at_live : Fits (length a) c (get_or a c 0) → Live (get_or a c 0) (get_or a (c + 1) 0)
      → Told a c want joined (chunk (live (get_or a c 0) (asked_in (get_or a (c + 1) 0))) want false)
  at_free : Fits (length a) c (get_or a c 0) → joined ≡ false → want ≡ c → Told a c want joined (chunk (free (get_or a c 0)) (get_or a (c + 1) 0) true)
  at_none : Told a c want joined nothing

pub told : (a : List ℕ) (c want : ℕ) (joined : Bool) → Told a c want joined (meet a c want joined)
unfolding meet
told a c want joined =
    go (eqb c (length a)) (eqb want 0) (header_fits a c) (is_live (get_or a (c + 1) 0)) (eqb want c) joined refl refl refl refl refl refl
  where
    fits : header_fits a c ≡ true → Fits (length a) c (get_or a c 0)
    fits e = fits_true _ _ _ (header_size a c e)

    lives : header_fits a c ≡ true → is_live (get_or a (c + 1) 0) ≡ true → Live (get_or a c 0) (get_or a (c + 1) 0)
    lives e l =
        live_true _ _ l (both (size_fits (length a) c (get_or a c 0)) (second_fits (get_or a c 0) (get_or a (c + 1) 0)) e).1

    go : (b₁ b₂ b₃ b₄ b₅ j : Bool) → eqb c (length a) ≡ b₁ → eqb want 0 ≡ b₂ → header_fits a c ≡ b₃
        → is_live (get_or a (c + 1) 0) ≡ b₄ → eqb want c ≡ b₅ → joined ≡ j
        → Told a c want joined (cond b₁ (cond b₂ end nothing)
        (cond b₃ (cond b₄ (chunk (live (get_or a c 0) (asked_in (get_or a (c + 1) 0))) want false)
        (cond j nothing (cond b₅ (chunk (free (get_or a c 0)) (get_or a (c + 1) 0) true) nothing))) nothing))
    go true true b₃ b₄ b₅ j e₁ e₂ e₃ e₄ e₅ e₆ = at_end (eqb-true _ _ e₁) (eqb-true _ _ e₂)
    go true false b₃ b₄ b₅ j e₁ e₂ e₃ e₄ e₅ e₆ = at_none
    go false b₂ false b₄ b₅ j e₁ e₂ e₃ e₄ e₅ e₆ = at_none
    go false b₂ true true b₅ j e₁ e₂ e₃ e₄ e₅ e₆ = at_live (fits e₃) (lives e₃ e₄)
    go false b₂ true false b₅ true e₁ e₂ e₃ e₄ e₅ e₆ = at_none
    go false b₂ true false true false e₁ e₂ e₃ e₄ e₅ e₆ = at_free (fits e₃) e₆ (eqb-true _ _ e₅)
    go false b₂ true false false false e₁ e₂ e₃ e₄ e₅ e₆ = at_none

with_whole : (k k' : Chunk) (r : Walked) (ks : List Chunk) → with_chunk k' r ≡ whole (k ∷ ks) → (k' ≡ k) × (r ≡ whole ks)
with_whole k k' broken ks e = (cc, cc)
with_whole k k' (whole ls) ks e = (cc, cc)

with_none : (k : Chunk) (r : Walked) → with_chunk k r ≡ whole [] → ⊥
with_none k broken e = let z : ◌≡◌ {A = ℕ} 0 1 = cc in omega arith
with_none k (whole ls) e = let z : ◌≡◌ {A = ℕ} 0 1 = cc in omega arith

pub laid : (ks : List Chunk) (a : List ℕ) (c want : ℕ) (joined : Bool) → walk_from a c want joined ≡ whole ks → Laid a c want joined ks
laid [] a c want joined e = go (told a c want joined) refl
  where
    go : {m : Met} → Told a c want joined m → meet a c want joined ≡ m → Laid a c want joined []
    go (at_end p q) m = record { names = q; heads = tt; sizes = tt; asks = tt; fills = omega arith; spaced = tt }
    go (at_live f l) m = absurd (with_none (live (get_or a c 0) _) (walk_from a (c + get_or a c 0) want false)
        (sym (from_chunk a c want joined _ _ _ m) ∙ e))
    go (at_free f j l) m =
        absurd (with_none (free (get_or a c 0)) (walk_from a (c + get_or a c 0) (get_or a (c + 1) 0) true) (sym (from_chunk a c want joined _ _ _ m) ∙ e))
    go at_none m = absurd (let z : ◌≡◌ {A = ℕ} 0 1 = cc (from_nothing a c want joined m, e) in omega arith)
laid (k ∷ ks) a c want joined e = go (told a c want joined) refl (laid ks a)
  where
    go : {m : Met} → Told a c want joined m → meet a c want joined ≡ m
        → ((d w : ℕ) (j : Bool) → walk_from a d w j ≡ whole ks → Laid a d w j ks) → Laid a c want joined (k ∷ ks)
    go (at_end p q) m r = absurd (let z : ◌≡◌ {A = ℕ} 0 1 = cc (from_end a c want joined m, e) in omega arith)
    go (at_live f l) m r =
        let u = with_whole k (live (get_or a c 0) _) (walk_from a (c + get_or a c 0) want false) ks (sym (from_chunk a c want joined _ _ _ m) ∙ e) in
        let t = r (c + get_or a c 0) want false u.1 in
        rw (← u.0)
        (record {
          names = t.names;
          heads = (refl, l.0, t.heads);
          sizes = (f.0, f.1, t.sizes);
          asks = (l.1, t.asks);
          fills = omega arith;
          spaced = t.spaced;
        })
    go (at_free f j l) m r =
        let u = with_whole k (free (get_or a c 0)) (walk_from a (c + get_or a c 0) (get_or a (c + 1) 0) true) ks
        (sym (from_chunk a c want joined _ _ _ m) ∙ e) in
        let t = r (c + get_or a c 0) (get_or a (c + 1) 0) true u.1 in
        rw (← u.0)
        (record {
          names = l;
          heads = (refl, t.names, t.heads);
          sizes = (f.0, f.1, t.sizes);
          asks = t.asks;
          fills = omega arith;
          spaced = (j, t.spaced);
        })
    go at_none m r = absurd (let z : ◌≡◌ {A = ℕ} 0 1 = cc (from_nothing a c want joined m, e) in omega arith)

-- ---- what stands there is found

true_fits : (n c s : ℕ) → Fits n c s → size_fits n c s ≡ true
true_fits n c s f = rw (eq-eqb (s % 2) 0 f.0, le-leb least_size s f.1, le-leb s (n - c) f.2)

module _ (a : List ℕ) (c want : ℕ) (joined : Bool) where
  meet_end : Laid a c want joined [] → meet a c want joined ≡ end
  unfolding meet
  meet_end r = rw (eq-eqb c (length a) (omega arith), eq-eqb want 0 r.names)

  meet_live : (s asked : ℕ) (ks : List Chunk) → Laid a c want joined (live s asked ∷ ks) → meet a c want joined ≡ chunk (live s asked) want false
  unfolding meet
  meet_live s asked ks r =
      let z : (s % 2 ≡ 0) × (least_size ≤ s) × Sizes ks = r.sizes in
      let told : live_mark + asked - live_mark ≡ asked = omega arith in
      rw (
        ne_eqb c (length a) (omega arith),
        r.heads.0,
        true_fits (length a) c s (z.0, z.1, omega arith),
        r.heads.1,
        le-leb live_mark (live_mark + asked) (omega arith),
        told,
        le-leb 1 asked r.asks.0.some,
        le-leb asked (s - header_words) r.asks.0.held,
      )

  meet_free : (s : ℕ) (ks : List Chunk) → Laid a c want joined (free s ∷ ks) → length a ≤ greatest_length
      → meet a c want joined ≡ chunk (free s) (first_free (c + s) ks 0) true
  unfolding meet
  meet_free s ks r n =
      let z : (s % 2 ≡ 0) × (least_size ≤ s) × Sizes ks = r.sizes in
      rw (
        ne_eqb c (length a) (omega arith),
        r.heads.0,
        true_fits (length a) c s (z.0, z.1, omega arith),
        r.heads.1,
        lt-leb live_mark (first_free (c + s) ks 0) (link_unmarked (c + s) ks (omega arith)),
        r.spaced.0,
        eq-eqb want c r.names,
      )

  -- the chunks behind the first
  past_live : (s asked : ℕ) (ks : List Chunk) → Laid a c want joined (live s asked ∷ ks) → Laid a (c + s) want false ks
  past_live s asked ks r =
      record { names = r.names; heads = r.heads.2; sizes = r.sizes.2; asks = r.asks.1; fills = omega arith; spaced = r.spaced }

  past_free : (s : ℕ) (ks : List Chunk) → Laid a c want joined (free s ∷ ks) → Laid a (c + s) (first_free (c + s) ks 0) true ks
  past_free s ks r =
      record { names = refl; heads = r.heads.2; sizes = r.sizes.2; asks = r.asks; fills = omega arith; spaced = r.spaced.1 }

pub walks : (ks : List Chunk) (a : List ℕ) (c want : ℕ) (joined : Bool) → Laid a c want joined ks → length a ≤ greatest_length
    → walk_from a c want joined ≡ whole ks
walks [] a c want joined r n = from_end a c want joined (meet_end a c want joined r)
walks (live s asked ∷ ks) a c want joined r n =
    from_chunk a c want joined _ _ _ (meet_live a c want joined s asked ks r)
    ∙ ap (with_chunk (live s asked)) (walks ks a (c + s) want false (past_live a c want joined s asked ks r) n)
walks (free s ∷ ks) a c want joined r n =
    from_chunk a c want joined _ _ _ (meet_free a c want joined s ks r n)
    ∙ ap (with_chunk (free s)) (walks ks a (c + s) (first_free (c + s) ks 0) true (past_free a c want joined s ks r) n)

-- ---- an arena is sound, and what is sound is an arena

pub arena_walked : (a : List ℕ) (ks : List Chunk) → Arena a ks → walked a ≡ whole ks
unfolding walked
arena_walked a ks r =
    let l = r.law in
    walks ks a first_chunk (get_or a list_word 0) false
    (record { names = r.linked.0; heads = r.linked.1; sizes = l.sizes; asks = l.asks; fills = l.fills; spaced = l.spaced }) l.most

pub arena_chunks : (a : List ℕ) (ks : List Chunk) → Arena a ks → chunks_of a ≡ ks
unfolding chunks_of
arena_chunks a ks r = ap chunks_in (arena_walked a ks r)

pub arena_sound : (a : List ℕ) (ks : List Chunk) → Arena a ks → sound a ≡ true
unfolding sound
arena_sound a ks r =
    rw (
      eq-eqb (length a % 2) 0 r.law.even,
      le-leb least_length (length a) r.law.least,
      le-leb (length a) greatest_length r.law.most,
      eq-eqb (get_or a 0 0) (length a) r.words,
      arena_walked a ks r,
    )

pub sound_arena : (a : List ℕ) → sound a ≡ true → (ks : List Chunk) × (walked a ≡ whole ks) × Arena a ks
unfolding sound walked
sound_arena a e =
    let p = both (lawful (length a)) (eqb (get_or a 0 0) (length a) && is_whole (walked a)) e in
    let q = both (eqb (get_or a 0 0) (length a)) (is_whole (walked a)) p.1 in
    go (walked a) refl (lawful_bounds (length a) p.0) (eqb-true (get_or a 0 0) (length a) q.0) q.1
  where
    go : (w : Walked) → walked a ≡ w → (length a % 2 ≡ 0) × (least_length ≤ length a) × (length a ≤ greatest_length) → get_or a 0 0 ≡ length a
        → is_whole w ≡ true
        → (ks : List Chunk) × (walked a ≡ whole ks) × Arena a ks
    go broken p l h t = absurd (let z : ◌≡◌ {A = ℕ} 0 1 = cc in omega arith)
    go (whole ks) p l h t =
        let f = laid ks a first_chunk (get_or a list_word 0) false p in (
          ks,
          p,
          record {
            words = h;
            linked = (f.names, f.heads);
            law = record { even = l.0; least = l.1; most = l.2; sizes = f.sizes; asks = f.asks; spaced = f.spaced; fills = f.fills };
          },
        )

pub sound_lawful : (a : List ℕ) → sound a ≡ true → lawful (length a) ≡ true
unfolding sound
sound_lawful a e = (both (lawful (length a)) _ e).0

pub sound_chunks : (a : List ℕ) → sound a ≡ true → Arena a (chunks_of a)
unfolding chunks_of
sound_chunks a e = let (ks, p, r) = sound_arena a e in rw p r

-- a chunk of it, and those before and after, fill the arena
pub sound_around : (a : List ℕ) (pre : List Chunk) (k : Chunk) (post : List Chunk) → sound a ≡ true → chunks_of a ≡ pre ++ k ∷ post
    → first_chunk + (total pre + (size k + total post)) ≡ length a
sound_around a pre k post e same = simp total_append at (rw same at (sound_chunks a e).law.fills)

-- ---- the round trip

pub written_sound : (ks : List Chunk) (a : List ℕ) → Lawful (length a) ks → (sound (written ks a) ≡ true) × (chunks_of (written ks a) ≡ ks)
written_sound ks a l = let r = written_arena ks a l in (arena_sound (written ks a) ks r, arena_chunks (written ks a) ks r)

pub sound_written : (a : List ℕ) → sound a ≡ true → written (chunks_of a) a ≡ a
sound_written a e = written_fixed (chunks_of a) a (sound_chunks a e)
