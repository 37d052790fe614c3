-- A ledger agrees with an arena: it has the arena's live blocks. All that demand 3 says of one state follows from this.
use mathlib.Core.Path.{◌≡◌, refl, sym, ap, ◌∙◌}
use mathlib.Core.Logic.{◌↔◌}
use mathlib.Core.Bool.{true}
use mathlib.Core.List.{List, ◌∷◌, ◌++◌}
use Prim.Native.Nat.{ℕ, ◌+◌, ◌-◌}
use lib.ListN.{length}
use Rattle.layout.specs.Numbers.{first_chunk, header_words}
use Rattle.layout.specs.Chunks.{Chunk, live, total}
use Rattle.layout.specs.Walk.{sound, chunks_of}
use Rattle.layout.proofs.Holds.{Lawful}
use Rattle.layout.proofs.Round.{sound_chunks}
use Rattle.rules.specs.Stands.{Stands, NoBlock}
use Rattle.rules.proofs.Searches.{BlockAt}
use Rattle.ledger.specs.Ledger.{Entry, Ledger, entry_at, blocks_from, blocks_of, Listed, Unlisted}
use Rattle.ledger.proofs.Entries.{Laid, listed_at, listed_split}
use Rattle.ledger.proofs.Blocks.{blocks_append, blocks_laid, Chunked, chunked}

-- the words `a` are a sound arena of `n` words, and `ledger` has its live blocks
pub record Agrees (n : ℕ) (a : List ℕ) (ledger : Ledger) : Type 0 where
  pub is_sound : sound a ≡ true
  pub long : length a ≡ n
  pub lists : ledger ≡ blocks_of a

pub chunked_block : {ks : List Chunk} {above : Ledger} {e : Entry} (k : Chunked first_chunk ks e above)
    → Stands ks k.pre (live k.s k.asked) k.post e.block
chunked_block k = record { same = k.same; number_is = sym (ap (λ (f : Entry). f.block) k.is) }

module _ (n : ℕ) (a : List ℕ) (ledger : Ledger) (g : Agrees n a ledger) where
  pub agrees_lawful : Lawful n (chunks_of a)
  agrees_lawful = rw g.long at (sound_chunks a g.is_sound).law

  -- the blocks lie one after another, from the first chunk on and up to the end
  pub agrees_laid : Laid first_chunk n ledger
  agrees_laid = rw g.lists (blocks_laid first_chunk (chunks_of a) n (sym agrees_lawful.fills) agrees_lawful.sizes)

  -- ---- an entry of the ledger is a block of the arena

  -- an entry between others is a live chunk between others
  pub agrees_chunked : (below : Ledger) (e : Entry) (above : Ledger) → ledger ≡ below ++ e ∷ above → Chunked first_chunk (chunks_of a) e above
  agrees_chunked below e above q = chunked first_chunk (chunks_of a) below e above (sym g.lists ∙ q)

  pub listed_chunked : (e : Entry) → Listed ledger e → (above : Ledger) × Chunked first_chunk (chunks_of a) e above
  listed_chunked e l = let (below, above, q) = listed_split ledger e l in (above, agrees_chunked below e above q)

  -- ---- a block of the arena is an entry of the ledger

  pub block_listed : (b : ℕ) (pre : List Chunk) (s asked : ℕ) (post : List Chunk) → BlockAt a b pre s asked post
      → Listed ledger (record { block = b; granted = s - header_words; asked = asked })
  block_listed b pre s asked post is =
      let q = g.lists ∙ ap (blocks_from first_chunk) is.same ∙ blocks_append first_chunk pre (live s asked ∷ post) (first_chunk + total pre) refl in
      rw (← is.number_is, q) (listed_at (blocks_from first_chunk pre) (entry_at (first_chunk + total pre) s asked)
      (blocks_from (first_chunk + total pre + s) post))

  -- a number that no entry has is no block's, and the other way round
  pub unlisted_block : (b : ℕ) → NoBlock a b ↔ Unlisted ledger b
  unlisted_block b = (
    λ none e l q. let (above, k) = listed_chunked e l in
        none (k.pre, k.s, k.asked, k.post, record { same = k.same; number_is = (chunked_block k).number_is ∙ q }),
    λ un (pre, s, asked, post, is). un (record { block = b; granted = s - header_words; asked = asked }) (block_listed b pre s asked post is) refl,
  )
