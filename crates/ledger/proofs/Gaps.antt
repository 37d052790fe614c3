-- The gaps of a list of chunks: the runs of free words before, between and above its live blocks.
use mathlib.Core.Path.{◌≡◌, refl, ap, ◌∙◌}
use mathlib.Core.Logic.{◌↔◌}
use mathlib.Core.Bool.{Bool, true, false, true≢false}
use mathlib.Core.List.{List, [], ◌∷◌, ◌++◌}
use Prim.Native.Nat.{ℕ, ◌+◌, ◌-◌, ◌≤◌, ◌<◌}
use native.Mathlib.Omega.{arith}
use borrow.Author.Tests.{lt-ltb}
use Rattle.layout.specs.Numbers.{header_words}
use Rattle.layout.specs.Chunks.{Chunk, free, live, total}
use Rattle.layout.proofs.Holds.{Sizes, Spaced}
use Rattle.rules.specs.Rules.{free_chunks}
use Rattle.rules.specs.Rooms.{room_words}
use Rattle.rules.specs.Crumbs.{counted, free_sizes}
use Rattle.rules.proofs.Searches.{FreeShorter, free_shorter_tail}
use Rattle.ledger.specs.Ledger.{blocks_from}
use Rattle.ledger.specs.Gaps.{gap_from, gaps_from, EachShorter, hole, holes}

-- the gaps of `ks`, where `p` free words stand right before them
abbrev pub gaps_in : ℕ → List Chunk → List ℕ
gaps_in p [] = p ∷ []
gaps_in p (free s ∷ ks) = gaps_in (p + s) ks
gaps_in p (live s asked ∷ ks) = p ∷ gaps_in 0 ks

-- they are those that the blocks of `ks` leave from word `c` on, where `ks` begin at word `d`
pub gaps_blocks : (n c d p : ℕ) (ks : List Chunk) → d ≡ c + p → n ≡ d + total ks → Sizes ks → gaps_from n c (blocks_from d ks) ≡ gaps_in p ks
gaps_blocks n c d p [] e f z =
    let last : gap_from n c [] ∷ [] ≡ p ∷ [] = ap (λ (m : ℕ). m ∷ []) (omega arith) in
    last
gaps_blocks n c d p (free s ∷ ks) e f z = gaps_blocks n c (d + s) (p + s) ks (omega arith) (omega arith) z.2
gaps_blocks n c d p (live s asked ∷ ks) e f z =
    let own : d + header_words - header_words - c ≡ p = omega arith in
    rw own (ap (◌∷◌ p) (gaps_blocks n (d + header_words + (s - header_words)) (d + s) 0 ks (omega (arith, z.1)) (omega arith) z.2))

-- ---- a need and the gaps

-- the first gap has at least the words that stand before
before_shorter : (need p : ℕ) (ks : List Chunk) → EachShorter need (gaps_in p ks) → p < need
before_shorter need p [] h = omega (arith, h.0)
before_shorter need p (free s ∷ ks) h = omega (arith, before_shorter need (p + s) ks h)
before_shorter need p (live s asked ∷ ks) h = omega (arith, h.0)

-- where every gap is shorter, so is every free chunk
gaps_free : (need p : ℕ) (pre : List Chunk) (s : ℕ) (post : List Chunk) → EachShorter need (gaps_in p (pre ++ free s ∷ post)) → s < need
gaps_free need p [] s post h = omega (arith, before_shorter need (p + s) post h)
gaps_free need p (free t ∷ pre) s post h = gaps_free need (p + t) pre s post h
gaps_free need p (live t asked ∷ pre) s post h = gaps_free need 0 pre s post h.1

-- no two free chunks stand in a row, so where every free chunk is shorter, so is every gap
free_gaps : (need p : ℕ) (joined : Bool) (ks : List Chunk) → Spaced joined ks → (joined ≡ false → p ≡ 0) → p < need → FreeShorter need ks
    → EachShorter need (gaps_in p ks)
free_gaps need p joined [] h j l f = (l, tt)
free_gaps need p joined (free s ∷ ks) h j l f =
    free_gaps need (p + s) true ks h.1 (λ e. absurd (true≢false e)) (omega (arith, j h.0, f [] s ks refl))
    (free_shorter_tail need (free s) ks f)
free_gaps need p joined (live s asked ∷ ks) h j l f = (l, free_gaps need 0 false ks h (λ e. refl) (omega arith) (free_shorter_tail need (live s asked) ks f))

pub gaps_shorter : (need : ℕ) (ks : List Chunk) → Spaced false ks → 1 ≤ need → EachShorter need (gaps_in 0 ks) ↔ FreeShorter need ks
gaps_shorter need ks h one = (
  λ l pre s post e. gaps_free need 0 pre s post (rw e at l),
  free_gaps need 0 false ks h (λ e. refl) one,
)

-- ---- what gaps count is what free chunks count, where a gap of 0 words counts nothing

-- no two free chunks stand in a row, so a gap is a free chunk, or has no words
pub gaps_counted : (count : ℕ → ℕ) → count 0 ≡ 0 → (p : ℕ) (joined : Bool) (ks : List Chunk) → Spaced joined ks → (joined ≡ false → p ≡ 0)
    → counted count (gaps_in p ks) ≡ count p + counted count (free_sizes ks)
gaps_counted count nothing p joined [] h j = refl
gaps_counted count nothing p joined (free s ∷ ks) h j =
    let none : p ≡ 0 = j h.0 in
    let later = gaps_counted count nothing s true ks h.1 (λ e. absurd (true≢false e)) in
    rw none (ap (λ (q : ℕ). counted count (gaps_in q ks)) (omega arith) ∙ later ∙ omega (arith, nothing))
gaps_counted count nothing p joined (live s asked ∷ ks) h j = omega (arith, nothing, gaps_counted count nothing 0 false ks h (λ e. refl))

pub a_hole : (words : ℕ) → 0 < words → hole words ≡ 1
a_hole words some = rw (lt-ltb 0 words some)

-- each free chunk is a hole
pub free_holes : (ks : List Chunk) → Sizes ks → holes (free_sizes ks) ≡ free_chunks ks
free_holes [] z = refl
free_holes (free s ∷ ks) z = omega (arith, a_hole s (omega (arith, z.1)), free_holes ks z.2)
free_holes (live s asked ∷ ks) z = free_holes ks z.2

-- ---- the gap right above a block of `s` words, header counted, which ends at word `c`, where `post` begin

pub gap_above : (n c s : ℕ) (post : List Chunk) → n ≡ c + total post → Spaced false post → s + gap_from n c (blocks_from c post) ≡ room_words s post
gap_above n c s [] e h = omega arith
gap_above n c s (live t asked ∷ post) e h = omega arith
gap_above n c s (free t ∷ []) e h = omega arith
gap_above n c s (free t ∷ live u asked ∷ post) e h = omega arith
gap_above n c s (free t ∷ free u ∷ post) e h = absurd (true≢false h.1.0)
