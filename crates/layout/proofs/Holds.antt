-- The chunks that an arena may have, their headers as facts on words, and the words that are in no header.
use mathlib.Core.Path.{◌≡◌, refl, sym, ap, ◌∙◌, subst}
use mathlib.Core.Logic.{◌≢◌}
use mathlib.Core.Bool.{Bool, true, false}
use mathlib.Core.List.{List, [], ◌∷◌, ◌++◌}
use Prim.Native.Nat.{ℕ, ◌+◌, ◌-◌, ◌%◌, ◌≤◌, ◌<◌}
use native.Mathlib.Omega.{arith}
use lib.ListN.{get_or, set}
use lib.Seq.{get_or-set_other}
use Rattle.layout.specs.Numbers.{first_chunk, header_words, least_size, least_length, greatest_length, live_mark}
use Rattle.layout.specs.Chunks.{Chunk, free, live, size, total, first_free, second}

-- every size is even and not too small
abbrev pub Sizes : List Chunk → Type 0
Sizes [] = Unit {0}
Sizes (k ∷ ks) = (size k % 2 ≡ 0) × (least_size ≤ size k) × Sizes ks

-- what was asked for is something, and a chunk of `s` words holds it
pub record AskedOf (s asked : ℕ) : Type 0 where
  pub some : 1 ≤ asked
  pub held : asked ≤ s - header_words

-- so of every live chunk
abbrev pub Asks : List Chunk → Type 0
Asks [] = Unit {0}
Asks (free s ∷ ks) = Asks ks
Asks (live s asked ∷ ks) = AskedOf s asked × Asks ks

-- the headers of `ks`, which begin at word `c`, stand in `a`; the last free one names `after`
abbrev pub Holds : List ℕ → ℕ → List Chunk → ℕ → Type 0
Holds a c [] after = Unit {0}
Holds a c (k ∷ ks) after =
    (get_or a c 0 ≡ size k) × (get_or a (c + 1) 0 ≡ second k (first_free (c + size k) ks after)) × Holds a (c + size k) ks after

-- word `i` is in no header of `ks`, which begin at word `c`
abbrev pub InNoHeader : ℕ → List Chunk → ℕ → Type 0
InNoHeader c [] i = Unit {0}
InNoHeader c (k ∷ ks) i = (i ≢ c) × (i ≢ c + 1) × InNoHeader (c + size k) ks i

-- no two free chunks in a row, where `joined` says that a free one ends where `ks` begin
abbrev pub Spaced : Bool → List Chunk → Type 0
Spaced joined [] = Unit {0}
Spaced joined (free s ∷ ks) = (joined ≡ false) × Spaced true ks
Spaced joined (live s asked ∷ ks) = Spaced false ks

-- an arena of `n` words may have the chunks `ks`
pub record Lawful (n : ℕ) (ks : List Chunk) : Type 0 where
  pub even : n % 2 ≡ 0
  pub least : least_length ≤ n
  pub most : n ≤ greatest_length
  pub sizes : Sizes ks
  pub asks : Asks ks
  pub spaced : Spaced false ks
  pub fills : first_chunk + total ks ≡ n

-- ---- two lists in a row, of which the second begins at word `d`

pub total_append : (ks ls : List Chunk) → total (ks ++ ls) ≡ total ks + total ls
total_append [] ls = omega arith
total_append (k ∷ ks) ls = omega (arith, total_append ks ls)

pub first_free_append : (c : ℕ) (ks ls : List Chunk) (after d : ℕ) → d ≡ c + total ks
    → first_free c (ks ++ ls) after ≡ first_free c ks (first_free d ls after)
first_free_append c [] ls after d e = ap (λ (n : ℕ). first_free n ls after) (omega arith)
first_free_append c (free s ∷ ks) ls after d e = refl
first_free_append c (live s asked ∷ ks) ls after d e = first_free_append (c + s) ks ls after d (omega arith)

pub sizes_append : (ks ls : List Chunk) → Sizes ks → Sizes ls → Sizes (ks ++ ls)
sizes_append [] ls z w = w
sizes_append (k ∷ ks) ls z w = (z.0, z.1, sizes_append ks ls z.2 w)

pub sizes_split : (ks ls : List Chunk) → Sizes (ks ++ ls) → Sizes ks × Sizes ls
sizes_split [] ls z = (tt, z)
sizes_split (k ∷ ks) ls z = let r = sizes_split ks ls z.2 in ((z.0, z.1, r.0), r.1)

pub asks_append : (ks ls : List Chunk) → Asks ks → Asks ls → Asks (ks ++ ls)
asks_append [] ls z w = w
asks_append (free s ∷ ks) ls z w = asks_append ks ls z w
asks_append (live s asked ∷ ks) ls z w = (z.0, asks_append ks ls z.1 w)

pub asks_split : (ks ls : List Chunk) → Asks (ks ++ ls) → Asks ks × Asks ls
asks_split [] ls z = (tt, z)
asks_split (free s ∷ ks) ls z = asks_split ks ls z
asks_split (live s asked ∷ ks) ls z = let r = asks_split ks ls z.1 in ((z.0, r.0), r.1)

module _ (a : List ℕ) where
  pub holds_split : (c : ℕ) (ks ls : List Chunk) (after d : ℕ) → d ≡ c + total ks
      → Holds a c (ks ++ ls) after → Holds a c ks (first_free d ls after) × Holds a d ls after
  holds_split c [] ls after d e h = (tt, subst (λ (n : ℕ). Holds a n ls after) (omega arith) h)
  holds_split c (k ∷ ks) ls after d e h =
      let e' : d ≡ c + size k + total ks = omega arith in
      let r = holds_split (c + size k) ks ls after d e' h.2 in
      ((h.0, h.1 ∙ ap (second k) (first_free_append (c + size k) ks ls after d e'), r.0), r.1)

pub spaced_left : (joined : Bool) (ks ls : List Chunk) → Spaced joined (ks ++ ls) → Spaced joined ks
spaced_left joined [] ls h = tt
spaced_left joined (free s ∷ ks) ls h = (h.0, spaced_left true ks ls h.1)
spaced_left joined (live s asked ∷ ks) ls h = spaced_left false ks ls h

-- what follows some chunks may be changed, if the change keeps the spacing whatever stands before
pub spaced_under : (joined : Bool) (pre ks ls : List Chunk) → ((j : Bool) → Spaced j ks → Spaced j ls) → Spaced joined (pre ++ ks)
    → Spaced joined (pre ++ ls)
spaced_under joined [] ks ls f h = f joined h
spaced_under joined (free s ∷ pre) ks ls f h = (h.0, spaced_under true pre ks ls f h.1)
spaced_under joined (live s asked ∷ pre) ks ls f h = spaced_under false pre ks ls f h

-- ---- one list

-- what may follow a free chunk may follow a live one
pub spaced_weaken : (ks : List Chunk) → Spaced true ks → Spaced false ks
spaced_weaken [] h = tt
spaced_weaken (free s ∷ ks) h = (refl, h.1)
spaced_weaken (live s asked ∷ ks) h = h

pub first_free_within : (c : ℕ) (ks : List Chunk) → first_free c ks 0 ≤ c + total ks
first_free_within c [] = omega arith
first_free_within c (free s ∷ ks) = omega arith
first_free_within c (live s asked ∷ ks) = omega (arith, first_free_within (c + s) ks)

-- a link is below the mark of a live chunk
pub link_unmarked : (c : ℕ) (ks : List Chunk) → c + total ks ≤ greatest_length → first_free c ks 0 < live_mark
link_unmarked c ks h = omega (arith, first_free_within c ks)

-- ---- words in no header

pub no_header_below : (c : ℕ) (ks : List Chunk) (i : ℕ) → i < c → InNoHeader c ks i
no_header_below c [] i h = tt
no_header_below c (k ∷ ks) i h = (omega arith, omega arith, no_header_below (c + size k) ks i (omega arith))

pub no_header_above : (c : ℕ) (ks : List Chunk) (i : ℕ) → Sizes ks → c + total ks ≤ i → InNoHeader c ks i
no_header_above c [] i z h = tt
no_header_above c (k ∷ ks) i z h = (omega arith, omega arith, no_header_above (c + size k) ks i z.2 (omega arith))

pub no_header_append : (c : ℕ) (ks ls : List Chunk) (d i : ℕ) → d ≡ c + total ks → InNoHeader c ks i → InNoHeader d ls i → InNoHeader c (ks ++ ls) i
no_header_append c [] ls d i e p q = subst (λ (n : ℕ). InNoHeader n ls i) (omega arith) q
no_header_append c (k ∷ ks) ls d i e p q = (p.0, p.1, no_header_append (c + size k) ks ls d i (omega arith) p.2 q)

-- a store to a word in no header keeps the headers
pub frame : (a : List ℕ) (c : ℕ) (ks : List Chunk) (after i v : ℕ) → InNoHeader c ks i → Holds a c ks after → Holds (set a i v) c ks after
frame a c [] after i v p h = tt
frame a c (k ∷ ks) after i v p h = (
  get_or-set_other a i c v 0 (λ e. p.0 (sym e)) ∙ h.0,
  get_or-set_other a i (c + 1) v 0 (λ e. p.1 (sym e)) ∙ h.1,
  frame a (c + size k) ks after i v p.2 h.2,
)
