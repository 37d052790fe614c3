-- Some chunks in the middle of an arena are replaced by others: one link is stored anew, and the headers of the new
-- chunks.
use mathlib.Core.Path.{◌≡◌, refl, sym, ap, ◌∙◌}
use mathlib.Core.Logic.{◌≢◌}
use mathlib.Core.Bool.{Bool, false}
use mathlib.Core.List.{List, [], ◌∷◌, ◌++◌}
use Prim.Native.Nat.{ℕ, ◌+◌, ◌≤◌, ◌<◌}
use native.Mathlib.Omega.{arith}
use lib.ListN.{length, get_or, set}
use lib.Seq.{get_or-set_other}
use Rattle.layout.specs.Numbers.{first_chunk, list_word, live_mark}
use Rattle.layout.specs.Chunks.{Chunk, live, size, total, first_free, second, header, write, written}
use Rattle.layout.specs.Links.{link_at}
use Rattle.layout.proofs.Holds.{Sizes, Asks, Holds, Spaced, Lawful, no_header_above, holds_split, first_free_append, total_append}
use Rattle.layout.proofs.Holds.{sizes_split, sizes_append, asks_split, asks_append, spaced_under}
use Rattle.layout.proofs.Linked.{Linked, link_at_below, link_at_ne, relink}
use Rattle.layout.proofs.Chain.{chain_behind, chain_first}
use Rattle.layout.proofs.Written.{Arena, set_same, write_fixed, write_no_header, header_same, header_set_second, header_set_other, write_set}
use Rattle.layout.proofs.Written.{Head}
use Rattle.layout.proofs.Written.{head_low, link_at_in}

-- headers are kept where no word from them on changes
holds_from : (a b : List ℕ) (c : ℕ) (ks : List Chunk) (after : ℕ) → ((i : ℕ) → c ≤ i → get_or b i 0 ≡ get_or a i 0) → Holds a c ks after
    → Holds b c ks after
holds_from a b c [] after f h = tt
holds_from a b c (k ∷ ks) after f h =
    (f c (omega arith) ∙ h.0, f (c + 1) (omega arith) ∙ h.1, holds_from a b (c + size k) ks after (λ i l. f i (omega arith)) h.2)

pub write_append : (c : ℕ) (ks ls : List Chunk) (after d : ℕ) (a : List ℕ) → d ≡ c + total ks
    → write c (ks ++ ls) after a ≡ write d ls after (write c ks (first_free d ls after) a)
unfolding write
write_append c [] ls after d a e = ap (λ (n : ℕ). write n ls after a) (omega arith)
write_append c (k ∷ ks) ls after d a e =
    ap (λ (n : ℕ). write (c + size k) (ks ++ ls) after (header c (size k) (second k n) a)) (first_free_append (c + size k) ks ls after d (omega arith))
    ∙ write_append (c + size k) ks ls after d _ (omega arith)

-- the control words of an arena of `n` words, and the headers of `pre`, of which the last free one names `next`
abbrev front : ℕ → List Chunk → ℕ → List ℕ → List ℕ
front n pre next a = write first_chunk pre next (header 0 n (first_free first_chunk pre next) a)

-- a store to the link word, before they are written, makes no difference
front_set : (n : ℕ) (pre : List Chunk) (next : ℕ) (a : List ℕ) (v : ℕ) → Sizes pre
    → front n pre next (set a (link_at list_word first_chunk pre) v) ≡ front n pre next a
front_set n pre next a v z = link_at_in (λ i. front n pre next (set a i v) ≡ front n pre next a) list_word first_chunk pre at_list at_head
  where
    at_list : front n pre next (set a list_word v) ≡ front n pre next a
    at_list = ap (write first_chunk pre next) (header_set_second 0 n _ a v)

    at_head : (i : ℕ) → Head first_chunk pre i → front n pre next (set a i v) ≡ front n pre next a
    at_head i p =
        let q : first_chunk ≤ i = head_low p in
        ap (write first_chunk pre next) (header_set_other 0 n _ a i v (omega arith) (omega arith)) ∙ write_set next _ v z p

-- where they stand already, but for what the last free one names, that store is all
front_linked : (a : List ℕ) (pre : List Chunk) (next was : ℕ) → Sizes pre → first_chunk + total pre ≤ length a → get_or a 0 0 ≡ length a
    → Linked a list_word first_chunk pre was → front (length a) pre next a ≡ set a (link_at list_word first_chunk pre) next
front_linked a pre next was z l w h =
    let link : ℕ = link_at list_word first_chunk pre in
    let b : List ℕ = set a link next in
    let r : Linked b list_word first_chunk pre next = relink a list_word first_chunk pre was next z (omega arith) l h in
    let o : 0 ≢ link = link_at_ne list_word first_chunk pre 0 (omega arith) (omega arith) in
    let w' : get_or b 0 0 ≡ length a = get_or-set_other a link 0 next 0 o ∙ w in
    sym (front_set (length a) pre next a next z)
    ∙ ap (write first_chunk pre next) (header_same 0 (length a) _ b w' r.0)
    ∙ write_fixed first_chunk pre next b r.1

-- `old`, from word `c` to word `e`, is replaced by `new` of the same total
module _ (a : List ℕ) (pre old new post : List Chunk) (c e : ℕ) (r : Arena a (pre ++ (old ++ post)))
    (at : c ≡ first_chunk + total pre) (to : e ≡ c + total old) (z : Sizes new) (t : total new ≡ total old) where
  before : Sizes pre × Linked a list_word first_chunk pre (first_free c (old ++ post) 0)
  before = (
    (sizes_split pre (old ++ post) r.law.sizes).0,
    (
      r.linked.0 ∙ first_free_append first_chunk pre (old ++ post) 0 c at,
      (holds_split a first_chunk pre (old ++ post) 0 c at r.linked.1).0,
    ),
  )

  -- the chunks behind are not touched
  behind : (v : ℕ) → Holds (write c new (first_free e post 0) (set a (link_at list_word first_chunk pre) v)) e post 0
  behind v =
      let h = holds_split a c old post 0 e to (holds_split a first_chunk pre (old ++ post) 0 c at r.linked.1).1 in
      let link : ℕ = link_at list_word first_chunk pre in
      let low : link < first_chunk + total pre = link_at_below list_word first_chunk pre before.0 (omega arith) in
      holds_from a _ e post 0 (λ i l. write_no_header c new _ _ i (no_header_above c new i z (omega arith)) ∙ get_or-set_other a link i v 0
      (omega arith))
      h.1

  pub replaced : written (pre ++ (new ++ post)) a
      ≡ write c new (first_free e post 0) (set a (link_at list_word first_chunk pre) (first_free c new (first_free e post 0)))
  unfolding written
  replaced =
      let n : first_chunk + (total pre + (total old + total post)) ≡ length a = simp total_append at r.law.fills in
      let to' : e ≡ c + total new = omega arith in
      let y : ℕ = first_free c new (first_free e post 0) in
      let f = front_linked a pre y _ before.0 (omega arith) r.words before.1 in
      rw (
        write_append first_chunk pre (new ++ post) 0 c _ at,
        first_free_append first_chunk pre
            (new ++ post) 0 c at,
        first_free_append c new post 0 e to',
        f,
        write_append c new post 0 e _ to',
      )
      (write_fixed e post 0 _ (behind y))

  -- the chunks before need no store where they name what they named
  pub replaced_same : first_free c new (first_free e post 0) ≡ first_free c old (first_free e post 0)
      → written (pre ++ (new ++ post)) a ≡ write c new (first_free e post 0) a
  replaced_same q =
      let v = chain_first a _ c (old ++ post) (chain_behind a pre (old ++ post) c r at) ∙ first_free_append c old post 0 e to ∙ sym q in
      replaced ∙ ap (write c new (first_free e post 0)) (set_same a (link_at list_word first_chunk pre) _ v)

-- what was asked for a live chunk, which starts at word `c`, becomes `w`: nothing but its second word is written
pub asked_anew : (a : List ℕ) (pre : List Chunk) (s asked w : ℕ) (post : List Chunk) (c : ℕ) → Arena a (pre ++ live s asked ∷ post)
    → c ≡ first_chunk + total pre → written (pre ++ live s w ∷ post) a ≡ set a (c + 1) (live_mark + w)
unfolding write header
asked_anew a pre s asked w post c r at =
    let z = (sizes_split pre (live s asked ∷ post) r.law.sizes).1 in
    let size_is = (holds_split a first_chunk pre (live s asked ∷ post) 0 c at r.linked.1).1.0 in
    replaced_same a pre (live s asked ∷ []) (live s w ∷ []) post c (c + s) r at (omega arith) (z.0, z.1, tt) refl refl
    ∙ ap (λ (b : List ℕ). set b (c + 1) (live_mark + w)) (set_same a c s size_is)

-- the chunks stay lawful
pub lawful_replaced : (n : ℕ) (pre old new post : List Chunk) → Lawful n (pre ++ (old ++ post)) → Sizes new → Asks new
    → total new ≡ total old
    → ((joined : Bool) → Spaced joined (old ++ post) → Spaced joined (new ++ post)) → Lawful n (pre ++ (new ++ post))
lawful_replaced n pre old new post l z w t f =
    let zs = sizes_split pre (old ++ post) l.sizes in
    let ws = asks_split pre (old ++ post) l.asks in
    let n' : first_chunk + (total pre + (total old + total post)) ≡ n = simp total_append at l.fills in
    record {
      even = l.even;
      least = l.least;
      most = l.most;
      sizes = sizes_append pre (new ++ post) zs.0 (sizes_append new post z (sizes_split old post zs.1).1);
      asks = asks_append pre (new ++ post) ws.0 (asks_append new post w (asks_split old post ws.1).1);
      spaced = spaced_under false pre (old ++ post) (new ++ post) f l.spaced;
      fills = simp total_append (omega arith);
    }
