-- A holder's store: it changes one word of one block, and no other word of any block.
use mathlib.Core.Path.{◌≡◌, refl, sym, ap, ◌∙◌}
use mathlib.Core.Logic.{◌⊎◌, inl, inr}
use mathlib.Core.Bool.{Bool, true, false, cond, ◌&&◌}
use mathlib.Core.List.{List}
use Prim.Native.Nat.{ℕ, ◌+◌, ◌-◌, ◌≤◌, ◌<◌}
use native.Mathlib.Omega.{arith}
use lib.Dec.{eqb}
use lib.ListN.{get_or, set, length-set}
use lib.Seq.{get_or-set_same, get_or-set_other}
use borrow.Author.Tests.{eqb-true, eqb-false}
use Rattle.layout.specs.Numbers.{first_chunk, header_words}
use Rattle.layout.specs.Chunks.{live, total}
use Rattle.layout.proofs.Payload.{store_inside}
use Rattle.layout.proofs.Round.{sound_chunks, arena_sound, arena_chunks}
use Rattle.ledger.specs.Ledger.{Entry, Ledger, blocks_from, Listed, ends, Held}
use Rattle.ledger.proofs.Entries.{laid_listed, laid_order}
use Rattle.ledger.proofs.Agreeing.{Agrees, agrees_laid, listed_chunked}

module _ (n : ℕ) (a : List ℕ) (ledger : Ledger) (g : Agrees n a ledger) where
  -- a word of the blocks is at one place of one of them
  one_place : (e f : Entry) → Listed ledger e → Listed ledger f → (i j : ℕ) → i < e.granted → j < f.granted → e.block + i ≡ f.block + j
      → (e.block ≡ f.block) × (i ≡ j)
  one_place e f l m i j h k q = go (laid_order first_chunk n ledger e f (agrees_laid n a ledger g) l m)
    where
      go : (e ≡ f) ⊎ ((ends e + header_words ≤ f.block) ⊎ (ends f + header_words ≤ e.block)) → (e.block ≡ f.block) × (i ≡ j)
      go (inl p) = let s : e.block ≡ f.block = ap (λ (d : Entry). d.block) p in (s, omega arith)
      go (inr (inl p)) = absurd (omega arith)
      go (inr (inr p)) = absurd (omega arith)

  module _ (b i v : ℕ) (held : Held ledger b i) where
    -- the chunks stay as they are
    pub store_agrees : Agrees n (set a (b + i) v) ledger
    store_agrees =
        let (e, l, q, h) = held in
        let (above, k) = listed_chunked n a ledger g e l in
        let block : e.block ≡ first_chunk + total k.pre + header_words = ap (λ (d : Entry). d.block) k.is in
        let words : e.granted ≡ k.s - header_words = ap (λ (d : Entry). d.granted) k.is in
        let arena = rw k.same at (sound_chunks a g.is_sound) in
        let stored = store_inside a k.pre (live k.s k.asked) k.post (first_chunk + total k.pre) (b + i) arena refl (omega arith) (omega arith) v in
        record {
          is_sound = arena_sound _ _ stored;
          long = length-set a (b + i) v ∙ g.long;
          lists = g.lists ∙ ap (blocks_from first_chunk) (k.same ∙ sym (arena_chunks _ _ stored));
        }

    pub store_there : get_or (set a (b + i) v) (b + i) 0 ≡ v
    store_there =
        let (e, l, q, h) = held in
        get_or-set_same a (b + i) v 0 (omega (arith, (laid_listed first_chunk n ledger e (agrees_laid n a ledger g) l).1, g.long))

    -- word `j` of the block of entry `e`
    pub store_keeps : (e : Entry) → Listed ledger e → (j : ℕ) → j < e.granted
        → get_or (set a (b + i) v) (e.block + j) 0 ≡ cond (eqb e.block b && eqb j i) v (get_or a (e.block + j) 0)
    store_keeps e l j h = go (eqb e.block b) (eqb j i) refl refl
      where
        elsewhere : ((e.block ≡ b) × (j ≡ i) → ⊥) → get_or (set a (b + i) v) (e.block + j) 0 ≡ get_or a (e.block + j) 0
        elsewhere other =
            let (f, m, q, k) = held in
            get_or-set_other a (b + i) (e.block + j) v 0
            (λ p. let r = one_place e f l m j i h k (p ∙ ap (λ (c : ℕ). c + i) (sym q)) in other (r.0 ∙ q, r.1))

        go : (block place : Bool) → eqb e.block b ≡ block → eqb j i ≡ place
            → get_or (set a (b + i) v) (e.block + j) 0 ≡ cond (block && place) v (get_or a (e.block + j) 0)
        go true true p q = rw (eqb-true e.block b p, eqb-true j i q) store_there
        go true false p q = elsewhere (λ r. eqb-false j i q r.1)
        go false place p q = elsewhere (λ r. eqb-false e.block b p r.0)
