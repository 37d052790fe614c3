-- How the loop along the free list comes to its counts.
use mathlib.Core.Path.{◌≡◌, refl}
use mathlib.Core.Logic.{◌≢◌}
use mathlib.Core.Bool.{true}
use mathlib.Core.List.{List, [], ◌∷◌}
use Prim.Native.Nat.{ℕ, ◌+◌, ◌-◌, max}
use native.Mathlib.Omega.{arith}
use lib.ListN.{length, get_or}
use Rattle.layout.specs.Numbers.{first_chunk, list_word, header_words, greatest_length}
use Rattle.layout.specs.Chunks.{Chunk, free, live}
use Rattle.layout.specs.Walk.{sound, chunks_of}
use Rattle.layout.specs.Links.{free_list, Chain}
use Rattle.layout.proofs.Chain.{chain, chain_goes_on}
use Rattle.layout.proofs.Round.{sound_chunks}
use Rattle.rules.specs.Rules.{free_words, widest, free_chunks}
use Rattle.passes.specs.Tallies.{free_tally}
use Rattle.rules.proofs.ReportCounts.{Below, counts_small}

-- what a list of free chunks comes to: its words, and its largest request
abbrev words_in : List (ℕ × ℕ) → ℕ
words_in [] = 0
words_in ((c, s) ∷ list) = s + words_in list

abbrev largest_in : List (ℕ × ℕ) → ℕ
largest_in [] = 0
largest_in ((c, s) ∷ list) = max (s - header_words) (largest_in list)

-- of the free list that is what the rules count
record Counted (c : ℕ) (ks : List Chunk) : Type 0 where
  words_listed : words_in (free_list c ks) ≡ free_words ks
  largest_listed : largest_in (free_list c ks) ≡ widest ks - header_words
  chunks_listed : length (free_list c ks) ≡ free_chunks ks

counted : (c : ℕ) (ks : List Chunk) → Counted c ks
counted c [] = record { words_listed = refl; largest_listed = refl; chunks_listed = refl }
counted c (free s ∷ ks) = let l = counted (c + s) ks in omega arith
counted c (live s asked ∷ ks) = let l = counted (c + s) ks in omega arith

-- the loop has yet to follow the links from word `link` on, through `list`; what it has counted, with these, makes the
-- counts of all free chunks
pub record CountingFree (a : List ℕ) (words largest chunks link : ℕ) (list : List (ℕ × ℕ)) : Type 0 where
  pub leads : Chain a link list
  pub all_words : words + words_in list ≡ free_words (chunks_of a)
  pub all_largest : max largest (largest_in list) ≡ widest (chunks_of a) - header_words
  pub all_chunks : chunks + length list ≡ free_chunks (chunks_of a)
  pub small : Below greatest_length (chunks_of a)

pub free_begins : (a : List ℕ) → sound a ≡ true → CountingFree a 0 0 0 list_word (free_list first_chunk (chunks_of a))
free_begins a e =
    let ks = chunks_of a in
    let l = counted first_chunk ks in
    record {
      leads = chain a ks (sound_chunks a e);
      all_words = omega (arith, l.words_listed);
      all_largest = omega (arith, l.largest_listed);
      all_chunks = omega (arith, l.chunks_listed);
      small = counts_small a e;
    }

-- where the link names a chunk, the first of them is that one
pub free_named : {a : List ℕ} {words largest chunks : ℕ} (chunk : ℕ)
    → (link : ℕ) × (list : List (ℕ × ℕ)) × (chunk ≡ get_or a link 0) × CountingFree a words largest chunks link list → chunk ≢ 0
    → (link : ℕ) × (rest : List (ℕ × ℕ)) × CountingFree a words largest chunks link ((chunk, get_or a chunk 0) ∷ rest)
free_named {a} chunk (link, list, n, g) some =
    let (rest, e) = chain_goes_on a link list g.leads chunk n some in
    (link, rest, rw e at g)

-- it counts the first of them: `size` and `most` are its words, and the largest request by then
pub free_goes_on : (a : List ℕ) (words largest chunks link c s : ℕ) (list : List (ℕ × ℕ)) → CountingFree a words largest chunks link ((c, s) ∷ list)
    → (size most : ℕ) → size ≡ s → most ≡ max largest (s - header_words) → CountingFree a (words + size) most (chunks + 1) (c + 1) list
free_goes_on a words largest chunks link c s list g size most e f =
    record {
      leads = g.leads.4;
      all_words = omega (arith, g.all_words);
      all_largest = omega (arith, g.all_largest);
      all_chunks = omega (arith, g.all_chunks);
      small = g.small;
    }

pub free_ends : (a : List ℕ) (words largest chunks link : ℕ) → CountingFree a words largest chunks link []
    → record { words = words; largest = largest; chunks = chunks } ≡ free_tally (chunks_of a)
free_ends a words largest chunks link g =
    let w : words ≡ free_words (chunks_of a) = omega (arith, g.all_words) in
    let l : largest ≡ widest (chunks_of a) - header_words = omega (arith, g.all_largest) in
    let n : chunks ≡ free_chunks (chunks_of a) = omega (arith, g.all_chunks) in
    rw (w, l, n)
