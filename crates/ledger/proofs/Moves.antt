-- A block that moves: the new block is granted, the words are copied, the old block is freed; the block goes on under
-- the new number with its words.
use mathlib.Core.Path.{◌≡◌, refl, sym, ap, ◌∙◌}
use mathlib.Core.Logic.{◌≢◌, ◌⊎◌, inl, inr}
use mathlib.Core.Bool.{Bool, true, false, cond}
use mathlib.Core.List.{List, ◌∷◌, ◌++◌}
use Prim.Native.Nat.{ℕ, ◌+◌, ◌-◌, ◌≤◌, ◌<◌, min}
use native.Mathlib.Omega.{arith}
use lib.Dec.{eqb}
use lib.ListN.{get_or}
use borrow.Author.Tests.{eqb-true}
use Rattle.layout.specs.Numbers.{first_chunk, header_words}
use Rattle.layout.specs.Chunks.{Chunk, free, written}
use Rattle.layout.specs.Walk.{chunks_of}
use Rattle.layout.proofs.Written.{length_written}
use Rattle.rules.specs.Spots.{held}
use Rattle.rules.specs.Rules.{taken, cut, joined, copied, released}
use Rattle.rules.specs.Rooms.{Needed}
use Rattle.rules.proofs.Copying.{length_copied, copied_other, copied_there}
use Rattle.rules.proofs.OldBlock.{StillThere}
use Rattle.rules.proofs.Searches.{BlockAt}
use Rattle.ledger.specs.Ledger.{Entry, Ledger, enter, strike, blocks_from, Listed, ends}
use Rattle.ledger.proofs.Entries.{Laid, enter_listed, listed_enter, listed_struck, laid_listed, laid_order, laid_same, strike_enter}
use Rattle.ledger.proofs.Agreeing.{Agrees, agrees_laid, block_listed}
use Rattle.ledger.proofs.Going.{Goes, written_listed, freed_goes, new_entry, granted_lists, granted_laid, granted_fresh, granted_lawful}

module _ (n : ℕ) (a : List ℕ) (ledger : Ledger) (g : Agrees n a ledger)
    (b : ℕ) (pre : List Chunk) (s asked : ℕ) (post : List Chunk) (is : BlockAt a b pre s asked post)
    (before : List Chunk) (t : ℕ) (after : List Chunk) (needed w : ℕ) (same : chunks_of a ≡ before ++ free t ∷ after) (nd : Needed needed w)
    (enough : needed ≤ t)
    (count : ℕ) (shorter : count ≡ min (s - header_words) (taken needed t - header_words)) where
  abbrev new : Entry
  new = new_entry before t needed w

  abbrev granted : List Chunk
  granted = before ++ (cut needed w t ++ after)

  -- the words once the need was granted and the words were copied
  abbrev copied_words : List ℕ
  copied_words = copied b new.block count (written granted a)

  -- the ledger with the old block and the new one
  abbrev both : Ledger
  both = enter new ledger

  both_lists : both ≡ blocks_from first_chunk granted
  both_lists = granted_lists n a ledger g before t after needed w same nd enough

  both_laid : Laid first_chunk n both
  both_laid = granted_laid n a ledger g before t after needed w same nd enough

  -- a word of a block of both, before the copy
  before_copy : (e : Entry) → Listed both e → (i : ℕ) → i < e.granted → get_or (written granted a) (e.block + i) 0 ≡ get_or a (e.block + i) 0
  before_copy e l = written_listed granted a (granted_lawful n a ledger g before t after needed w same nd enough).sizes e (rw both_lists at l)

  module _ (r : StillThere copied_words b s asked granted) where
    both_agree : Agrees n copied_words both
    both_agree =
        record {
          is_sound = r.0;
          long = length_copied b new.block (written granted a) count ∙ length_written granted a ∙ g.long;
          lists = both_lists ∙ ap (blocks_from first_chunk) (sym r.1);
        }

    -- the old block is freed
    freed : Goes n copied_words both (λ c. c) (written (joined (r.2 ++ free s ∷ r.3)) copied_words) (strike b both)
    freed = freed_goes n copied_words both both_agree b r.2 s asked r.3 (record { same = r.1 ∙ r.4.same; number_is = r.4.number_is })

    old_listed : Listed ledger (record { block = b; granted = s - header_words; asked = asked })
    old_listed = block_listed n a ledger g b pre s asked post is

    -- the new block is another
    new_other : new.block ≢ b
    new_other q = granted_fresh n a ledger g before t after needed w same nd enough _ old_listed (sym q)

    -- the entry of its number has its words
    new_long : (f : Entry) → Listed both f → f.block ≡ new.block → f.granted ≡ new.granted
    new_long f m p = ap (λ (d : Entry). d.granted) (laid_same first_chunk n both f new both_laid m (enter_listed new ledger) p)

    -- the old block has its words in the new one, as many as both have
    copied_new : (e : Entry) → Listed ledger e → e.block ≡ b → (i : ℕ) → i < e.granted → i < new.granted
        → get_or copied_words (new.block + i) 0 ≡ get_or a (e.block + i) 0
    copied_new e l q i h j =
        let m : ends new ≤ n = (laid_listed first_chunk n both new both_laid (enter_listed new ledger)).1 in
        let f : e.granted ≡ s - header_words =
        ap (λ (d : Entry). d.granted) (laid_same first_chunk n ledger e _ (agrees_laid n a ledger g) l old_listed q) in
        copied_there b new.block (written granted a) count i (omega (arith, shorter)) (rw length_written (omega (arith, g.long, shorter)))
        ∙ ap (λ (c : ℕ). get_or (written granted a) (c + i) 0) (sym q)
        ∙ before_copy e (listed_enter new ledger e l) i h

    -- every other block is left alone
    copied_beside : (f : Entry) → Listed both f → f.block ≢ new.block → (i : ℕ) → i < f.granted
        → get_or copied_words (f.block + i) 0 ≡ get_or a (f.block + i) 0
    copied_beside f l q i h =
        copied_other b new.block (written granted a) count (f.block + i)
        (beside (laid_order first_chunk n both f new both_laid l (enter_listed new ledger)))
        ∙ before_copy f l i h
      where
        beside : (f ≡ new) ⊎ ((ends f + header_words ≤ new.block) ⊎ (ends new + header_words ≤ f.block))
            → (f.block + i < new.block) ⊎ (new.block + count ≤ f.block + i)
        beside (inl p) = absurd (q (ap (λ (e : Entry). e.block) p))
        beside (inr (inl p)) = inl (omega arith)
        beside (inr (inr p)) = inr (omega (arith, shorter))

    -- a block that goes on keeps its words, up to the free of the old one
    carried_on : (e f : Entry) → Listed ledger e → Listed both f → (moved : Bool) → eqb e.block b ≡ moved
        → f.block ≡ cond moved new.block e.block
        → (i : ℕ) → i < e.granted → i < f.granted → get_or copied_words (f.block + i) 0 ≡ get_or a (e.block + i) 0
    carried_on e f l m true q p i h j =
        ap (λ (c : ℕ). get_or copied_words (c + i) 0) p ∙ copied_new e l (eqb-true e.block b q) i h (omega (arith, new_long f m p))
    carried_on e f l m false q p i h j =
        copied_beside f m (λ u. granted_fresh n a ledger g before t after needed w same nd enough e l (sym p ∙ u)) i j
        ∙ ap (λ (c : ℕ). get_or a (c + i) 0) p

    pub moved_goes : Goes n a ledger (λ c. cond (eqb c b) new.block c) (written (released (held b granted)) copied_words)
        (enter new (strike b ledger))
    moved_goes =
        rw (r.5, ← strike_enter b new new_other first_chunk n ledger (agrees_laid n a ledger g))
        (record {
          agrees = freed.agrees;
          keeps = λ e f l m p i h j.
              freed.keeps f f (listed_struck b both f m).1 m refl i j j ∙ carried_on e f l (listed_struck b both f m).1
              (eqb e.block b) refl p i h j;
        })
