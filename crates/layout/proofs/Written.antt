-- What `written` keeps, what stands in it, and which words it takes no notice of.
use mathlib.Core.Path.{◌≡◌, refl, sym, ap, ◌∙◌}
use mathlib.Core.Logic.{◌≢◌}
use mathlib.Core.List.{List, [], ◌∷◌}
use Prim.Native.Nat.{ℕ, ◌+◌, ◌≤◌, ◌<◌}
use native.Mathlib.Omega.{arith}
use lib.ListN.{length, get_or, set, length-set}
use lib.Seq.{get_or-set_same, get_or-set_other, set-get_or, set-set, set_comm}
use Rattle.layout.specs.Numbers.{first_chunk, list_word}
use Rattle.layout.specs.Chunks.{Chunk, free, live, size, total, header, write, written}
use Rattle.layout.specs.Links.{link_at}
use Rattle.layout.proofs.Holds.{Sizes, Holds, InNoHeader, Lawful, no_header_below}
use Rattle.layout.proofs.Linked.{Linked}

-- a word stored where it stands already changes nothing
pub set_same : (a : List ℕ) (i v : ℕ) → get_or a i 0 ≡ v → set a i v ≡ a
set_same a i v e = rw (← e, set-get_or)

-- ---- a header

module _ (i v w : ℕ) (a : List ℕ) where
  pub length_header : length (header i v w a) ≡ length a
  unfolding header
  length_header = simp length-set

  pub header_first : i < length a → get_or (header i v w a) i 0 ≡ v
  unfolding header
  header_first h = get_or-set_other (set a i v) (i + 1) i w 0 (omega arith) ∙ get_or-set_same a i v 0 h

  pub header_second : i + 1 < length a → get_or (header i v w a) (i + 1) 0 ≡ w
  unfolding header
  header_second h = get_or-set_same (set a i v) (i + 1) w 0 (simp length-set h)

  pub header_other : (j : ℕ) → j ≢ i → j ≢ i + 1 → get_or (header i v w a) j 0 ≡ get_or a j 0
  unfolding header
  header_other j p q = simp get_or-set_other

  pub header_same : get_or a i 0 ≡ v → get_or a (i + 1) 0 ≡ w → header i v w a ≡ a
  unfolding header
  header_same p q = rw (← p, set-get_or, ← q, set-get_or)

  -- a store before it: to its first word, to its second, and to another
  pub header_set_first : (u : ℕ) → header i v w (set a i u) ≡ header i v w a
  unfolding header
  header_set_first u = rw set-set

  pub header_set_second : (u : ℕ) → header i v w (set a (i + 1) u) ≡ header i v w a
  unfolding header
  header_set_second u = rw (set_comm a (i + 1) i u v (omega arith), set-set)

  pub header_set_other : (j u : ℕ) → j ≢ i → j ≢ i + 1 → header i v w (set a j u) ≡ set (header i v w a) j u
  unfolding header
  header_set_other j u p q = rw (set_comm a j i u v p, set_comm (set a i v) j (i + 1) u w q)

-- ---- the length is kept

pub length_write : (c : ℕ) (ks : List Chunk) (after : ℕ) (a : List ℕ) → length (write c ks after a) ≡ length a
unfolding write
length_write c [] after a = refl
length_write c (k ∷ ks) after a = length_write (c + size k) ks after _ ∙ length_header _ _ _ a

pub length_written : (ks : List Chunk) (a : List ℕ) → length (written ks a) ≡ length a
unfolding written
length_written ks a = length_write first_chunk ks 0 _ ∙ length_header _ _ _ a

-- ---- a word in no header is kept

pub write_no_header : (c : ℕ) (ks : List Chunk) (after : ℕ) (a : List ℕ) (i : ℕ) → InNoHeader c ks i → get_or (write c ks after a) i 0 ≡ get_or a i 0
unfolding write
write_no_header c [] after a i p = refl
write_no_header c (k ∷ ks) after a i p = write_no_header (c + size k) ks after _ i p.2 ∙ header_other _ _ _ a i p.0 p.1

pub written_no_header : (ks : List Chunk) (a : List ℕ) (i : ℕ) → first_chunk ≤ i → InNoHeader first_chunk ks i → get_or (written ks a) i 0 ≡ get_or a i 0
unfolding written
written_no_header ks a i h p = write_no_header first_chunk ks 0 _ i p ∙ header_other 0 _ _ a i (omega arith) (omega arith)

-- ---- what is written stands there

pub write_holds : (c : ℕ) (ks : List Chunk) (after : ℕ) (a : List ℕ) → Sizes ks → c + total ks ≤ length a → Holds (write c ks after a) c ks after
unfolding write
write_holds c [] after a z f = tt
write_holds c (k ∷ ks) after a z f = (
  write_no_header (c + size k) ks after _ c (no_header_below (c + size k) ks c (omega arith)) ∙ header_first c _ _ a (omega arith),
  write_no_header (c + size k) ks after _ (c + 1) (no_header_below (c + size k) ks (c + 1) (omega arith)) ∙ header_second c _ _ a (omega arith),
  write_holds (c + size k) ks after _ z.2 (simp length_header (omega arith)),
)

-- `a` is an arena of the chunks `ks`
pub record Arena (a : List ℕ) (ks : List Chunk) : Type 0 where
  pub words : get_or a 0 0 ≡ length a
  pub linked : Linked a list_word first_chunk ks 0
  pub law : Lawful (length a) ks

pub written_arena : (ks : List Chunk) (a : List ℕ) → Lawful (length a) ks → Arena (written ks a) ks
unfolding written
written_arena ks a r = record {
  words = write_no_header first_chunk ks 0 _ 0 (no_header_below first_chunk ks 0 (omega arith)) ∙ header_first 0 _ _ a (omega arith)
      ∙ sym (length_written ks a);
  linked = (
    write_no_header first_chunk ks 0 _ list_word (no_header_below first_chunk ks list_word (omega arith)) ∙ header_second 0 _ _ a (omega arith),
    write_holds first_chunk ks 0 _ r.sizes (simp length_header (omega arith)),
  );
  law = rw (length_written ks a) r;
}

-- ---- what stands there already is written to no effect

pub write_fixed : (c : ℕ) (ks : List Chunk) (after : ℕ) (a : List ℕ) → Holds a c ks after → write c ks after a ≡ a
unfolding write
write_fixed c [] after a h = refl
write_fixed c (k ∷ ks) after a h = rw (header_same c (size k) _ a h.0 h.1) (write_fixed (c + size k) ks after a h.2)

pub written_fixed : (ks : List Chunk) (a : List ℕ) → Arena a ks → written ks a ≡ a
unfolding written
written_fixed ks a r = rw (header_same 0 (length a) _ a r.words r.linked.0) (write_fixed first_chunk ks 0 a r.linked.1)

-- ---- a store to a header, before it is written, makes no difference

-- word `i` is in a header of `ks`, which begin at word `c`
pub data Head : ℕ → List Chunk → ℕ → Type 0 where
  at_size : {c : ℕ} {k : Chunk} {ks : List Chunk} → Head c (k ∷ ks) c
  at_second : {c : ℕ} {k : Chunk} {ks : List Chunk} → Head c (k ∷ ks) (c + 1)
  later : {c i : ℕ} {k : Chunk} {ks : List Chunk} → Head (c + size k) ks i → Head c (k ∷ ks) i

pub head_low : {c : ℕ} {ks : List Chunk} {i : ℕ} → Head c ks i → c ≤ i
head_low at_size = omega arith
head_low at_second = omega arith
head_low (later h) = omega (arith, head_low h)

pub write_set : {c : ℕ} {ks : List Chunk} {i : ℕ} (after : ℕ) (a : List ℕ) (v : ℕ) → Sizes ks → Head c ks i
    → write c ks after (set a i v) ≡ write c ks after a
unfolding write
write_set after a v z (at_size {c} {k} {ks}) = ap (write (c + size k) ks after) (header_set_first c _ _ a v)
write_set after a v z (at_second {c} {k} {ks}) = ap (write (c + size k) ks after) (header_set_second c _ _ a v)
write_set after a v z (later {c} {i} {k} {ks} h) =
    let l : c + size k ≤ i = head_low h in
    ap (write (c + size k) ks after) (header_set_other c _ _ a i v (omega arith) (omega arith)) ∙ write_set after _ v z.2 h

-- what holds of `base` and of every word in a header holds of the link word
pub link_at_in : (P : ℕ → Type 0) (base c : ℕ) (ks : List Chunk) → P base → ((i : ℕ) → Head c ks i → P i) → P (link_at base c ks)
link_at_in P base c [] p f = p
link_at_in P base c (free s ∷ ks) p f = link_at_in P (c + 1) (c + s) ks (f (c + 1) at_second) (λ i h. f i (later h))
link_at_in P base c (live s asked ∷ ks) p f = link_at_in P base (c + s) ks p (λ i h. f i (later h))
