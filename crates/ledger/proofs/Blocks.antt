-- The laws of live blocks as a ledger has them: of chunks in a row, of merged chunks, and of one entry among them.
use mathlib.Core.Path.{◌≡◌, refl, sym, ap, ◌∙◌}
use mathlib.Core.List.{List, [], ◌∷◌, ◌++◌, nil≢cons, head-eq_of_cons-eq, tail-eq_of_cons-eq}
use Prim.Native.Nat.{ℕ, ◌+◌, ◌-◌}
use native.Mathlib.Omega.{arith}
use lib.ListN.{length}
use Rattle.layout.specs.Numbers.{header_words}
use Rattle.layout.specs.Chunks.{Chunk, free, live, size, total}
use Rattle.layout.proofs.Holds.{Sizes}
use Rattle.rules.specs.Rules.{join, joined, free_words, live_blocks}
use Rattle.ledger.specs.Ledger.{Entry, Ledger, entry_at, blocks_from, held_words}
use Rattle.ledger.proofs.Entries.{Laid, laid_weaken}

-- ---- chunks in a row, of which the second begin at word `d`

pub blocks_append : (c : ℕ) (ks ls : List Chunk) (d : ℕ) → d ≡ c + total ks → blocks_from c (ks ++ ls) ≡ blocks_from c ks ++ blocks_from d ls
blocks_append c [] ls d e = ap (λ (n : ℕ). blocks_from n ls) (omega arith)
blocks_append c (free s ∷ ks) ls d e = blocks_append (c + s) ks ls d (omega arith)
blocks_append c (live s asked ∷ ks) ls d e = ap (◌∷◌ (entry_at c s asked)) (blocks_append (c + s) ks ls d (omega arith))

-- a middle that begins at word `d`, and what stands above it at word `e`
pub blocks_around : (c : ℕ) (pre mid post : List Chunk) (d e : ℕ) → d ≡ c + total pre → e ≡ d + total mid
    → blocks_from c (pre ++ (mid ++ post)) ≡ blocks_from c pre ++ (blocks_from d mid ++ blocks_from e post)
blocks_around c pre mid post d e p q =
    blocks_append c pre (mid ++ post) d p ∙ ap (◌++◌ (blocks_from c pre)) (blocks_append d mid post e q)

-- ---- merged chunks

blocks_join : (c : ℕ) (k : Chunk) (ks : List Chunk) → blocks_from c (join k ks) ≡ blocks_from c (k ∷ ks)
blocks_join c (live s asked) ks = refl
blocks_join c (free s) [] = refl
blocks_join c (free s) (live t asked ∷ ks) = refl
blocks_join c (free s) (free t ∷ ks) = ap (λ (n : ℕ). blocks_from n ks) (omega arith)

-- merging free neighbours keeps the blocks
pub blocks_joined : (c : ℕ) (ks : List Chunk) → blocks_from c (joined ks) ≡ blocks_from c ks
unfolding joined
blocks_joined c [] = refl
blocks_joined c (free s ∷ ks) = blocks_join c (free s) (joined ks) ∙ blocks_joined (c + s) ks
blocks_joined c (live s asked ∷ ks) = blocks_join c (live s asked) (joined ks) ∙ ap (◌∷◌ (entry_at c s asked)) (blocks_joined (c + s) ks)

-- ---- where they lie

pub blocks_laid : (c : ℕ) (ks : List Chunk) (d : ℕ) → d ≡ c + total ks → Sizes ks → Laid c d (blocks_from c ks)
blocks_laid c [] d e z = omega arith
blocks_laid c (free s ∷ ks) d e z = laid_weaken c (c + s) d (blocks_from (c + s) ks) (omega arith) (blocks_laid (c + s) ks d (omega arith) z.2)
blocks_laid c (live s asked ∷ ks) d e z = (
  omega arith,
  laid_weaken (c + header_words + (s - header_words)) (c + s) d (blocks_from (c + s) ks) (omega (arith, z.1))
      (blocks_laid (c + s) ks d (omega arith) z.2),
)

-- ---- what they add up to, and how many there are

pub blocks_words : (c : ℕ) (ks : List Chunk) → Sizes ks → free_words ks + held_words (blocks_from c ks) ≡ total ks
blocks_words c [] z = refl
blocks_words c (free s ∷ ks) z = omega (arith, blocks_words (c + s) ks z.2)
blocks_words c (live s asked ∷ ks) z = omega (arith, blocks_words (c + s) ks z.2, z.1)

pub blocks_count : (c : ℕ) (ks : List Chunk) → live_blocks ks ≡ length (blocks_from c ks)
blocks_count c [] = refl
blocks_count c (free s ∷ ks) = blocks_count (c + s) ks
blocks_count c (live s asked ∷ ks) = omega (arith, blocks_count (c + s) ks)

-- ---- an entry among them is a live chunk

-- entry `e` is that of the live chunk of `s` words between `pre` and `post`, which begin at word `c`; `above` are the
-- blocks of `post`
pub record Chunked (c : ℕ) (ks : List Chunk) (e : Entry) (above : Ledger) : Type 0 where
  pub pre : List Chunk
  pub s : ℕ
  pub asked : ℕ
  pub post : List Chunk
  pub same : ks ≡ pre ++ live s asked ∷ post
  pub is : e ≡ entry_at (c + total pre) s asked
  pub above_is : above ≡ blocks_from (c + total pre + s) post

-- the same with one chunk more before it
chunked_behind : (c : ℕ) (k : Chunk) (ks : List Chunk) (e : Entry) (above : Ledger) → Chunked (c + size k) ks e above → Chunked c (k ∷ ks) e above
chunked_behind c k ks e above r =
    let p : c + size k + total r.pre ≡ c + (size k + total r.pre) = omega arith in
    record {
      pre = k ∷ r.pre;
      s = r.s;
      asked = r.asked;
      post = r.post;
      same = ap (◌∷◌ k) r.same;
      is = rw p at r.is;
      above_is = rw p at r.above_is;
    }

pub chunked : (c : ℕ) (ks : List Chunk) (below : Ledger) (e : Entry) (above : Ledger) → blocks_from c ks ≡ below ++ e ∷ above → Chunked c ks e above
chunked c [] [] e above q = absurd (nil≢cons q)
chunked c [] (f ∷ below) e above q = absurd (nil≢cons q)
chunked c (free s ∷ ks) below e above q = chunked_behind c (free s) ks e above (chunked (c + s) ks below e above q)
chunked c (live s asked ∷ ks) [] e above q =
    let p : c + 0 ≡ c = omega arith in
    record {
      pre = [];
      s = s;
      asked = asked;
      post = ks;
      same = refl;
      is = rw p (sym (head-eq_of_cons-eq q));
      above_is = rw p (sym (tail-eq_of_cons-eq q));
    }
chunked c (live s asked ∷ ks) (f ∷ below) e above q = chunked_behind c (live s asked) ks e above (chunked (c + s) ks below e above (tail-eq_of_cons-eq q))
