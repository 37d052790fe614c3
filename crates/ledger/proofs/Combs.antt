-- Item 8's promise is the best of its kind: an arena whose free chunks are all just too short, like the gaps of a comb,
-- is mailed as a picture, and read.
use mathlib.Core.Path.{◌≡◌, refl, sym, ap, ◌∙◌}
use mathlib.Core.Bool.{Bool, true, false}
use mathlib.Core.List.{List, [], ◌∷◌, ◌++◌}
use Prim.Native.Nat.{ℕ, zero, suc, ◌+◌, ◌-◌, ◌*◌, ◌%◌, ◌≤◌, ◌<◌}
use native.Mathlib.Nat.{mul-add, mul-suc}
use native.Mathlib.Omega.{arith}
use lib.Dec.{leb}
use lib.ListN.{length, replicate, length-replicate}
use borrow.Author.Tests.{leb-true, leb-false}
use Rattle.layout.specs.Numbers.{control_words, least_size, word_values, lawful, need}
use Rattle.layout.specs.Chunks.{Chunk, free, live, total, written}
use Rattle.layout.specs.Walk.{sound, chunks_of}
use Rattle.layout.specs.declared.Reason.TheVariants.{NoRoom}
use Rattle.layout.proofs.Bools.{lawful_bounds}
use Rattle.layout.proofs.Holds.{Sizes, Asks, Spaced, Lawful}
use Rattle.layout.proofs.Written.{length_written}
use Rattle.layout.proofs.Bounds.{zeros_below, written_below}
use Rattle.layout.proofs.Round.{written_sound}
use Rattle.rules.specs.Answers.{Outcome, success, free_words_in, live_blocks_in}
use Rattle.rules.specs.Rules.{free_words, widest, live_blocks}
use Rattle.rules.specs.Stands.{NoGap}
use Rattle.rules.specs.Pictures.{picture_of}
use Rattle.rules.specs.Calls.{read_on}
use Rattle.rules.specs.Scattered.{most_too_short, scattered}
use Rattle.rules.specs.Fits.{Fit, Policies}
use Rattle.rules.specs.Picks.{AllFitting}
use Rattle.rules.specs.Libraries.{alloc, read, Library, library_by}
use Rattle.rules.proofs.ReportCounts.{report_answers}
use Rattle.rules.proofs.Largest.{widest_least}
use Rattle.rules.proofs.Saying.{picture_says}
use Rattle.rules.proofs.PictureCalls.{reads_sound}
use Rattle.rules.proofs.Calls.{alloc_by_behaves}
use Rattle.ledger.specs.Events.{call}
use Rattle.ledger.specs.Runs.{State, reported, after, Run, arrived}
use Rattle.ledger.specs.Promises.{DoneAbove, Refusing, BestOfItsKind}

-- ---- the chunks

-- `blocks` live chunks, each between two free ones of `gap` words; they have the least size, but the lowest has `more`
-- words besides
abbrev comb : ℕ → ℕ → ℕ → List Chunk
comb gap more zero = free gap ∷ []
comb gap more (suc blocks) = free gap ∷ live (least_size + more) 1 ∷ comb gap 0 blocks

module _ (gap : ℕ) where
  comb_sizes : (more blocks : ℕ) → gap % 2 ≡ 0 → least_size ≤ gap → more % 2 ≡ 0 → Sizes (comb gap more blocks)
  comb_sizes more zero even least even-more = (even, least, tt)
  comb_sizes more (suc blocks) even least even-more = (even, least, (omega arith, omega arith, comb_sizes 0 blocks even least refl))

  comb_asks : (more blocks : ℕ) → Asks (comb gap more blocks)
  comb_asks more zero = tt
  comb_asks more (suc blocks) = (record { some = omega arith; held = omega arith }, comb_asks 0 blocks)

  comb_spaced : (more blocks : ℕ) → Spaced false (comb gap more blocks)
  comb_spaced more zero = (refl, tt)
  comb_spaced more (suc blocks) = (refl, comb_spaced 0 blocks)

  comb_blocks : (more blocks : ℕ) → live_blocks (comb gap more blocks) ≡ blocks
  comb_blocks more zero = refl
  comb_blocks more (suc blocks) = omega (arith, comb_blocks 0 blocks)

  comb_words : (more blocks : ℕ) → free_words (comb gap more blocks) ≡ gap * (blocks + 1)
  comb_words more zero = omega arith
  comb_words more (suc blocks) = omega (arith, mul-add gap 1 (blocks + 1), comb_words 0 blocks)

  comb_total : (blocks : ℕ) → total (comb gap 0 blocks) ≡ gap * (blocks + 1) + blocks * least_size
  comb_total zero = omega arith
  comb_total (suc blocks) = omega (arith, mul-add gap 1 (blocks + 1), comb_total blocks)

  comb_widest : (more blocks : ℕ) → widest (comb gap more blocks) ≡ gap
  comb_widest more zero = omega arith
  comb_widest more (suc blocks) = omega (arith, comb_widest 0 blocks)

-- ---- the arena, its picture, and the run

-- an even number of words, so many times
even_times : (gap : ℕ) → gap % 2 ≡ 0 → (count : ℕ) → gap * count % 2 ≡ 0
even_times gap even zero = omega arith
even_times gap even (suc count) = omega (arith, mul-suc gap count, even, even_times gap even count)

module _ (n w blocks : ℕ) (l : lawful n ≡ true) (three : 3 ≤ w) (fits : control_words + suc blocks * least_size + scattered w (suc blocks) ≤ n) where
  -- what is left for the lowest live chunk beside the least
  abbrev over : ℕ
  over = n - control_words - suc blocks * least_size - scattered w (suc blocks)

  abbrev chunks : List Chunk
  chunks = comb (most_too_short w) over (suc blocks)

  chunks_lawful : Lawful n chunks
  chunks_lawful =
      let b = lawful_bounds n l in
      let even : most_too_short w % 2 ≡ 0 = omega arith in
      let all = even_times (most_too_short w) even (suc blocks + 1) in
      let one_more = mul-add (most_too_short w) 1 (blocks + 1) in
      record {
        even = b.0;
        least = b.1;
        most = b.2;
        sizes = comb_sizes (most_too_short w) over (suc blocks) even (omega arith) (omega (arith, b, all));
        asks = comb_asks (most_too_short w) over (suc blocks);
        spaced = comb_spaced (most_too_short w) over (suc blocks);
        fills = omega (arith, one_more, comb_total (most_too_short w) blocks);
      }

  abbrev zeros : List ℕ
  zeros = replicate n 0

  zeros_long : length zeros ≡ n
  zeros_long = length-replicate n 0

  abbrev arena : List ℕ
  arena = written chunks zeros

  arena_long : length arena ≡ n
  arena_long = length_written chunks zeros ∙ zeros_long

  lawful_here : Lawful (length zeros) chunks
  lawful_here = rw zeros_long chunks_lawful

  arena_sound : sound arena ≡ true
  arena_sound = (written_sound chunks zeros lawful_here).0

  arena_chunks : chunks_of arena ≡ chunks
  arena_chunks = (written_sound chunks zeros lawful_here).1

  -- no free chunk has the need
  arena_full : NoGap arena (need w)
  arena_full pre s post (same, enough) =
      let most : widest (pre ++ free s ∷ post) ≡ most_too_short w = ap widest (sym same ∙ arena_chunks) ∙ comb_widest (most_too_short w) over (suc blocks) in
      omega (arith, most, widest_least pre s post, enough)

  module _ (policies : Policies) (fitting : AllFitting policies) where
    abbrev text : List ℕ
    text = picture_of arena

    reads : read_on text zeros ≡ record { answer = success []; words = arena }
    reads =
        let b = lawful_bounds n l in
        reads_sound text zeros arena
        (picture_says arena (omega (arith, b, arena_long)) (written_below chunks zeros lawful_here (zeros_below word_values n (omega arith))))
        (arena_long ∙ sym zeros_long) arena_sound

    abbrev before : State
    before = record { words = zeros; ledger = [] }

    left : (after (library_by policies) (call (read text)) before).words ≡ arena
    left = ap (λ (outcome : Outcome). outcome.words) reads

    refusing : Refusing (library_by policies) n w (suc blocks) (scattered w (suc blocks))
    refusing =
        record {
          state = after (library_by policies) (call (read text)) before;
          run = arrived text zeros zeros_long (ap (λ (outcome : Outcome). outcome.answer.code) reads);
          blocks_are = rw (left, report_answers arena arena_sound, arena_chunks) (comb_blocks (most_too_short w) over (suc blocks));
          words_are = rw (left, report_answers arena arena_sound, arena_chunks) (comb_words (most_too_short w) over (suc blocks));
          no_room = λ fit. rw left
              (((alloc_by_behaves arena (policies fit) (fitting fit) w).refused NoRoom).1
              (arena_sound, ((omega arith, omega (arith, arena_long, fits)), arena_full)));
        }

pub best_of_its_kind : (policies : Policies) → AllFitting policies → BestOfItsKind (library_by policies)
best_of_its_kind policies fitting n w zero l three one fits = absurd (omega arith)
best_of_its_kind policies fitting n w (suc blocks) l three one fits = refusing n w blocks l three fits policies fitting

-- ---- so no smaller bound would do

-- whatever bound an alloc under some fit is sure above, it is no smaller
pub least_bound : (library : Library) → BestOfItsKind library → (bound : ℕ → ℕ → ℕ) (fit : Fit)
    → ((n : ℕ) (s : State) → Run library n s → DoneAbove library bound s (alloc fit))
    → (n w blocks : ℕ) → lawful n ≡ true → 3 ≤ w → 1 ≤ blocks → control_words + blocks * least_size + scattered w blocks ≤ n
    → scattered w blocks ≤ bound w blocks
least_bound library best bound fit kept n w blocks l three one fits = go (leb (scattered w blocks) (bound w blocks)) refl
  where
    r : Refusing library n w blocks (scattered w blocks)
    r = best n w blocks l three one fits

    go : (at_least_lem : Bool) → leb (scattered w blocks) (bound w blocks) ≡ at_least_lem → scattered w blocks ≤ bound w blocks
    go true is = leb-true _ _ is
    go false is =
        let more : bound w (live_blocks_in (reported library r.state)) < free_words_in (reported library r.state) =
        rw (r.blocks_are, r.words_are) (leb-false (scattered w blocks) (bound w blocks) is) in
        absurd (omega (arith, r.no_room fit, kept n r.state r.run w (omega arith) more))
