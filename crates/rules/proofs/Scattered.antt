-- Item 8 of every sound arena: there are at most as many free chunks as live blocks and one, so a request is done
-- wherever more words are free than can lie in so many chunks that are too short for it.
use mathlib.Core.Path.{◌≡◌, refl}
use mathlib.Core.Bool.{true, false, true≢false}
use mathlib.Core.List.{List, [], ◌∷◌}
use Prim.Native.Nat.{ℕ, ◌+◌, ◌*◌, ◌%◌, ◌≤◌, ◌<◌}
use native.Mathlib.Nat.{mul-add, mul-le-mul_left, le-mul_of_pos_right}
use native.Mathlib.Omega.{arith}
use lib.ListN.{length}
use Rattle.layout.specs.Numbers.{least_size, need}
use Rattle.layout.specs.Chunks.{Chunk, free, live}
use Rattle.layout.specs.Walk.{sound, chunks_of}
use Rattle.layout.proofs.Holds.{Sizes, Spaced, sizes_split}
use Rattle.layout.proofs.Round.{sound_chunks}
use Rattle.rules.specs.Answers.{free_words_in, live_blocks_in, free_chunks_in}
use Rattle.rules.specs.Rules.{free_words, live_blocks, free_chunks}
use Rattle.rules.specs.Stands.{NoGap}
use Rattle.rules.specs.Causes.{LawfulRequest}
use Rattle.rules.specs.Scattered.{most_too_short, scattered}
use Rattle.rules.specs.Fits.{Policy}
use Rattle.rules.specs.Picks.{Fitting}
use Rattle.rules.specs.Calls.{alloc_by, report_on}
use Rattle.rules.proofs.Searches.{FreeShorter, no_gap_shorter, free_shorter_tail}
use Rattle.rules.proofs.ReportCounts.{report_answers, counts_within}
use Rattle.rules.proofs.Calls.{alloc_by_done}

-- ---- free chunks

-- between two of them stands a live one
few_free : (ks : List Chunk) → Spaced false ks → free_chunks ks ≤ live_blocks ks + 1
few_free [] h = omega arith
few_free (free s ∷ []) h = omega arith
few_free (free s ∷ (free t ∷ ks)) h = absurd (true≢false h.1.0)
few_free (free s ∷ (live t asked ∷ ks)) h = omega (arith, few_free ks h.1)
few_free (live s asked ∷ ks) h = omega (arith, few_free ks h)

-- where each has at most so many words, all have at most so many times their number
free_most : (most : ℕ) (ks : List Chunk) → FreeShorter (most + 1) ks → free_words ks ≤ most * free_chunks ks
free_most most [] f = omega arith
free_most most (free s ∷ ks) f =
    omega (arith, mul-add most 1 (free_chunks ks), f [] s ks refl, free_most most ks (free_shorter_tail (most + 1) (free s) ks f))
free_most most (live s asked ∷ ks) f = free_most most ks (free_shorter_tail (most + 1) (live s asked) ks f)

-- `most` words are the most of a lawful size below `words`
abbrev MostBelow : ℕ → ℕ → Type 0
MostBelow words most = (s : ℕ) → s % 2 ≡ 0 → least_size ≤ s → s < words → s ≤ most

shorter_most : (words most : ℕ) → MostBelow words most → (ks : List Chunk) → Sizes ks → FreeShorter words ks → FreeShorter (most + 1) ks
shorter_most words most is ks z f pre s post same =
    let y = (sizes_split pre (free s ∷ post) (rw same at z)).1 in
    omega (arith, is s y.0 y.1 (f pre s post same))

-- ---- a sound arena

module _ (a : List ℕ) (e : sound a ≡ true) where
  pub few_free_chunks : free_chunks_in (report_on a).answer ≤ live_blocks_in (report_on a).answer + 1
  few_free_chunks = rw (report_answers a e) (few_free (chunks_of a) (sound_chunks a e).law.spaced)

  -- more free words than can lie in chunks of at most `most` words: one has `words` words
  a_gap : (words most : ℕ) → MostBelow words most → most * (live_blocks_in (report_on a).answer + 1) < free_words_in (report_on a).answer
      → NoGap a words → ⊥
  a_gap words most is more none =
      let law = (sound_chunks a e).law in
      let ks = chunks_of a in
      let free-are : free_words ks ≤ most * free_chunks ks = free_most most ks
      (shorter_most words most is ks law.sizes ((no_gap_shorter a words).0 none)) in
      let few : most * free_chunks ks ≤ most * (live_blocks ks + 1) = mul-le-mul_left most (few_free ks law.spaced) in
      let many : most * (live_blocks ks + 1) < free_words ks = rw (report_answers a e) at more in
      omega (arith, free-are, few, many)

  -- ---- a request that more words are free for than can lie scattered

  module _ (w : ℕ) (more : scattered w (live_blocks_in (report_on a).answer) < free_words_in (report_on a).answer) where
    pub sure_gap : NoGap a (need w) → ⊥
    sure_gap = a_gap (need w) (most_too_short w) (λ s even least short. omega arith) more

    -- the arena is large enough for it
    pub sure_lawful : 1 ≤ w → LawfulRequest (length a) w
    sure_lawful one =
        let law = (sound_chunks a e).law in
        let ks = chunks_of a in
        let many : most_too_short w * (live_blocks ks + 1) < free_words ks = rw (report_answers a e) at more in
        let once : most_too_short w ≤ most_too_short w * (live_blocks ks + 1) = le-mul_of_pos_right (most_too_short w) (omega arith) in
        (one, omega (arith, many, once, (counts_within ks law.sizes).words_fit, law.fills, law.even))

    pub sure_done : (policy : Policy) → Fitting policy → 1 ≤ w → (alloc_by policy a w).answer.code ≡ 0
    sure_done policy fitting one = alloc_by_done a policy fitting w e (sure_lawful one) sure_gap

  -- ---- a request that needs no more than the least chunk has

  pub least_done : (policy : Policy) → Fitting policy → (w : ℕ) → 1 ≤ w → need w ≤ least_size → 0 < free_words_in (report_on a).answer
      → (alloc_by policy a w).answer.code ≡ 0
  least_done policy fitting w one small more =
      alloc_by_done a policy fitting w e (one, omega (arith, (sound_chunks a e).law))
      (a_gap (need w) 0 (λ s even least short. omega arith) (omega (arith, more)))
