-- The law of the free list: the chain of links is exactly the free chunks, in address order.
use mathlib.Core.Path.{◌≡◌, refl, sym, ap, ◌∙◌, subst}
use mathlib.Core.Logic.{◌≢◌}
use mathlib.Core.List.{List, [], ◌∷◌, ◌++◌}
use Prim.Native.Nat.{ℕ, ◌+◌, ◌<◌}
use native.Mathlib.Omega.{arith}
use lib.ListN.{length, get_or}
use Rattle.layout.specs.Numbers.{first_chunk, list_word}
use Rattle.layout.specs.Chunks.{Chunk, free, live, total, first_free}
use Rattle.layout.specs.Links.{link_at, free_list, Chain}
use Rattle.layout.proofs.Holds.{Sizes}
use Rattle.layout.proofs.Linked.{Linked}
use Rattle.layout.proofs.Written.{Arena}

-- of chunks that begin at word `c` and end the arena: the links from word `link` on, which names the first free one,
-- lead through their free list
linked_chain : (a : List ℕ) (link c : ℕ) (ks : List Chunk) → Linked a link c ks 0 → Sizes ks → link < c → c + total ks ≡ length a
    → Chain a link (free_list c ks)
linked_chain a link c [] h z l f = h.0
linked_chain a link c (free s ∷ ks) h z l f =
    (h.0, h.1.0, l, omega arith, linked_chain a (c + 1) (c + s) ks (h.1.1, h.1.2) z.2 (omega arith) (omega arith))
linked_chain a link c (live s asked ∷ ks) h z l f = linked_chain a link (c + s) ks (h.0, h.1.2) z.2 (omega arith) (omega arith)

-- in an arena of the chunks `ks`, the links from the list's first word on lead through the free ones, and end there
pub chain : (a : List ℕ) (ks : List Chunk) → Arena a ks → Chain a list_word (free_list first_chunk ks)
chain a ks r = linked_chain a list_word first_chunk ks r.linked r.law.sizes (omega arith) r.law.fills

-- ---- along the chain: what word `link` holds

-- where it is 0, none is left
pub chain_ends : (a : List ℕ) (link : ℕ) (list : List (ℕ × ℕ)) → Chain a link list → get_or a link 0 ≡ 0 → list ≡ []
chain_ends a link [] h e = refl
chain_ends a link ((c, s) ∷ list) h e = absurd (omega (arith, h.0, h.2))

-- where it is not, the first that is left starts there
pub chain_goes_on : (a : List ℕ) (link : ℕ) (list : List (ℕ × ℕ)) → Chain a link list → (next : ℕ) → next ≡ get_or a link 0 → next ≢ 0
    → (rest : List (ℕ × ℕ)) × (list ≡ (next, get_or a next 0) ∷ rest)
chain_goes_on a link [] h next e n = absurd (n (e ∙ h))
chain_goes_on a link ((c, s) ∷ list) h next e n = (list, rw (e ∙ h.0, h.1))

-- so the links from a word on lead through one list only
pub chain_only : (a : List ℕ) (link : ℕ) (list other : List (ℕ × ℕ)) → Chain a link list → Chain a link other → list ≡ other
chain_only a link [] other h k = sym (chain_ends a link other k h)
chain_only a link ((c, s) ∷ list) [] h k = chain_ends a link ((c, s) ∷ list) h k
chain_only a link ((c, s) ∷ list) ((d, t) ∷ other) h k =
    let e : c ≡ d = sym h.0 ∙ k.0 in
    let f : s ≡ t = sym h.1 ∙ ap (λ (i : ℕ). get_or a i 0) e ∙ k.1 in
    rw (e, f) (ap (◌∷◌ (d, t)) (chain_only a (c + 1) list other h.4 (rw e k.4)))

-- ---- in the middle of the chain: the word that names the first free chunk after `pre`

-- a chain through the free chunks of `pre ++ post` is, from that word on, a chain through those of `post`
behind : (a : List ℕ) (base c : ℕ) (pre post : List Chunk) (d : ℕ) → d ≡ c + total pre
    → Chain a base (free_list c (pre ++ post)) → Chain a (link_at base c pre) (free_list d post)
behind a base c [] post d e h = subst (λ (n : ℕ). Chain a base (free_list n post)) (omega arith) h
behind a base c (free s ∷ pre) post d e h = behind a (c + 1) (c + s) pre post d (omega arith) h.4
behind a base c (live s asked ∷ pre) post d e h = behind a base (c + s) pre post d (omega arith) h

-- from there on the links lead through the free chunks behind `pre`
pub chain_behind : (a : List ℕ) (pre post : List Chunk) (d : ℕ) → Arena a (pre ++ post) → d ≡ first_chunk + total pre
    → Chain a (link_at list_word first_chunk pre) (free_list d post)
chain_behind a pre post d r e = behind a list_word first_chunk pre post d e (chain a (pre ++ post) r)

-- the first of which it names
pub chain_first : (a : List ℕ) (link c : ℕ) (ks : List Chunk) → Chain a link (free_list c ks) → get_or a link 0 ≡ first_free c ks 0
chain_first a link c [] h = h
chain_first a link c (free s ∷ ks) h = h.0
chain_first a link c (live s asked ∷ ks) h = chain_first a link (c + s) ks h

-- and the second word of that one names the next
pub chain_next : (a : List ℕ) (link c s : ℕ) (ks : List Chunk) → Chain a link (free_list c (free s ∷ ks)) → get_or a (c + 1) 0 ≡ first_free (c + s) ks 0
chain_next a link c s ks h = chain_first a (c + 1) (c + s) ks h.4
