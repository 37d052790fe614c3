-- The words inside a chunk, behind its header: writing the chunks keeps them, and a store to one of them keeps the
-- chunks.
use mathlib.Core.Path.{◌≡◌, ◌∙◌, sym}
use mathlib.Core.List.{List, ◌∷◌, ◌++◌}
use Prim.Native.Nat.{ℕ, ◌+◌, ◌≤◌, ◌<◌}
use native.Mathlib.Omega.{arith}
use lib.ListN.{get_or, set, length-set}
use lib.Seq.{get_or-set_other}
use Rattle.layout.specs.Numbers.{first_chunk, list_word, header_words}
use Rattle.layout.specs.Chunks.{Chunk, size, total, written}
use Rattle.layout.proofs.Holds.{Sizes, InNoHeader, no_header_below, no_header_above, no_header_append, sizes_split, frame}
use Rattle.layout.proofs.Written.{Arena, written_no_header}

-- a word inside a chunk, behind its header, is in no header: the chunks begin at word `c`, this one at word `d`
pub payload : (c : ℕ) (pre : List Chunk) (k : Chunk) (post : List Chunk) (d i : ℕ) → d ≡ c + total pre → Sizes pre → d + header_words ≤ i
    → i < d + size k
    → InNoHeader c (pre ++ k ∷ post) i
payload c pre k post d i e z lo hi =
    no_header_append c pre (k ∷ post) d i e (no_header_above c pre i z (omega arith))
    (omega arith, omega arith, no_header_below (d + size k) post i hi)

-- whatever the words held before, such a word is kept when these chunks are written
pub inside_kept : (a : List ℕ) (pre : List Chunk) (k : Chunk) (post : List Chunk) (d i : ℕ) → Sizes (pre ++ k ∷ post)
    → d ≡ first_chunk + total pre → d + header_words ≤ i → i < d + size k → get_or (written (pre ++ k ∷ post) a) i 0 ≡ get_or a i 0
inside_kept a pre k post d i z e lo hi =
    written_no_header (pre ++ k ∷ post) a i (omega arith) (payload first_chunk pre k post d i e (sizes_split pre (k ∷ post) z).0 lo hi)

-- any value may be stored to it
pub store_inside : (a : List ℕ) (pre : List Chunk) (k : Chunk) (post : List Chunk) (d i : ℕ) → Arena a (pre ++ k ∷ post)
    → d ≡ first_chunk + total pre → d + header_words ≤ i → i < d + size k → (v : ℕ) → Arena (set a i v) (pre ++ k ∷ post)
store_inside a pre k post d i r e lo hi v =
    let p = payload first_chunk pre k post d i e (sizes_split pre (k ∷ post) r.law.sizes).0 lo hi in
    record {
      words = get_or-set_other a i 0 v 0 (omega arith) ∙ r.words ∙ sym (length-set a i v);
      linked = (get_or-set_other a i list_word v 0 (omega arith) ∙ r.linked.0, frame a first_chunk (pre ++ k ∷ post) 0 i v p r.linked.1);
      law = rw (length-set a i v) r.law;
    }
