-- What each call comes to, case by case: it is refused for a reason, and what the reason says is so, or it is done.
-- `RegrantCases` has resize, relocate and realloc.
use mathlib.Core.Path.{◌≡◌, refl}
use mathlib.Core.Logic.{◌≢◌}
use mathlib.Core.Bool.{Bool, true, false, cond}
use mathlib.Core.List.{List, [], ◌∷◌, ◌++◌}
use Prim.Native.Nat.{ℕ, ◌+◌, ◌-◌}
use native.Mathlib.Omega.{arith}
use lib.ListN.{length, replicate}
use Rattle.layout.specs.Numbers.{first_chunk, control_words, header_words, lawful, need}
use Rattle.layout.specs.Chunks.{Chunk, free, live, total, written}
use Rattle.layout.specs.Walk.{sound, chunks_of}
use Rattle.layout.specs.Reasons.{arena_gate}
use Rattle.layout.specs.Reasons.{Gate}
use Rattle.layout.specs.declared.Reason.{Reason}
use Rattle.layout.specs.declared.Reason.TheVariants.{Length, Damaged, NotABlock, Zero, TooLarge, NoRoom}
use Rattle.layout.proofs.Reasons.{number_positive}
use Rattle.rules.specs.Answers.{Outcome, refusal, success, done, refused, settle, pass}
use Rattle.rules.specs.Spots.{Spot, at, held}
use Rattle.rules.specs.Rules.{taken, cut, joined, released, asked_at, granted_at, grant_from, allotted, free_words, widest, live_blocks, free_chunks}
use Rattle.rules.specs.Calls.{on_block, granted, start_on, alloc_by, alloc_on, free_on, size_on, report_on}
use Rattle.rules.specs.Stands.{GapAt}
use Rattle.rules.specs.Fits.{Policy, first_fit_policy}
use Rattle.rules.specs.Picks.{Picks, no_gap, a_gap, Fitting}
use Rattle.rules.proofs.Fits.{first_fitting}
use Rattle.rules.proofs.Searches.{BlockAt, BlockSearch, no_block, a_block, block_search}
use Rattle.rules.proofs.Gates.{Checked, unlawful, damaged, whole, checked, Asked, for_none, for_more, for_some, request_asked}
use Rattle.rules.specs.Causes.{LawfulRequest, StartRefused, ReportRefused, BlockRefused, AllocRefused}

-- an outcome of a call on the words `a`: `Refuses` is what the reasons say, and `Does` what is known of the fields and
-- the words if it is done
pub data Case (fields : ℕ) (a : List ℕ) (Refuses : Reason → Type 0) (Does : List ℕ → List ℕ → Type 0) : Outcome → Type 0 where
  refuses : (why : Reason) → Refuses why → Case fields a Refuses Does (record { answer = refusal fields why; words = a })
  does : {values after : List ℕ} → Does values after → Case fields a Refuses Does (record { answer = success values; words = after })

module _ {fields : ℕ} {a : List ℕ} {Refuses : Reason → Type 0} {Does : List ℕ → List ℕ → Type 0} where
  -- a call that is refused, which is to say that its code is not 0, changes nothing, and all its fields are 0
  pub refused_unchanged : {outcome : Outcome} → Case fields a Refuses Does outcome → outcome.answer.code ≢ 0 → outcome.words ≡ a
  refused_unchanged (refuses why r) n = refl
  refused_unchanged (does d) n = absurd (n refl)

  pub refused_zeros : {outcome : Outcome} → Case fields a Refuses Does outcome → outcome.answer.code ≢ 0
      → outcome.answer.values ≡ replicate fields 0
  refused_zeros (refuses why r) n = refl
  refused_zeros (does d) n = absurd (n refl)

  -- a call that is done did what it does
  pub done_does : {outcome : Outcome} → Case fields a Refuses Does outcome → outcome.answer.code ≡ 0
      → Does outcome.answer.values outcome.words
  done_does (refuses why r) z = absurd (omega (arith, number_positive why))
  done_does (does d) z = d

-- ---- the calls

pub data Restarts (a : List ℕ) : List ℕ → List ℕ → Type 0 where
  restarts : lawful (length a) ≡ true → Restarts a [] (written (free (length a - control_words) ∷ []) a)

pub start_case : (a : List ℕ) → Case 0 a (StartRefused a) (Restarts a) (start_on a)
unfolding start_on
start_case a = go (lawful (length a)) refl
  where
    go : (l : Bool) → lawful (length a) ≡ l
        → Case 0 a (StartRefused a) (Restarts a) (settle 0 a (cond l (done [] (written (free (length a - control_words) ∷ []) a)) (refused Length)))
    go true e = does (restarts e)
    go false e = refuses Length (refl, e)

-- what alloc does: the need is taken from a free chunk that fits; which one, its policy says
pub data Allots (a : List ℕ) (n : ℕ) : List ℕ → List ℕ → Type 0 where
  allots : sound a ≡ true → LawfulRequest (length a) n → (pre : List Chunk) (s : ℕ) (post : List Chunk) → GapAt a (need n) pre s post
      → Allots a n ((first_chunk + total pre + (s - taken (need n) s) + header_words) ∷ (taken (need n) s - header_words) ∷ [])
      (written (pre ++ (cut (need n) n s ++ post)) a)

-- under any policy that is fitting
pub alloc_by_case : (policy : Policy) → Fitting policy → (a : List ℕ) (n : ℕ) → Case 2 a (AllocRefused a n) (Allots a n) (alloc_by policy a n)
unfolding alloc_by
alloc_by_case policy fitting a n = go (checked a) (request_asked (length a) n) (fitting (need n) (chunks_of a))
  where
    go : {arena request : Gate} {gap : Spot} → Checked a arena → Asked (length a) n request → Picks (chunks_of a) (need n) gap
        → Case 2 a (AllocRefused a n) (Allots a n) (settle 2 a (pass arena (pass request (granted NoRoom (allotted (grant_from (need n) n gap) a)))))
    go (unlawful e) q g = refuses Length e
    go (damaged e f) q g = refuses Damaged (e, f)
    go (whole e) (for_none z) g = refuses Zero (e, z)
    go (whole e) (for_more m) g = refuses TooLarge (e, m)
    go (whole e) (for_some r) (no_gap h) = refuses NoRoom (e, (r, h))
    go (whole e) (for_some r) (a_gap pre s post is) = does (allots e r pre s post is)

pub alloc_case : (a : List ℕ) (n : ℕ) → Case 2 a (AllocRefused a n) (Allots a n) (alloc_on a n)
alloc_case = alloc_by_case first_fit_policy first_fitting

-- a call on block `b`: where there is the block, its fields and the words follow from the spot
block_case : (a : List ℕ) (b fields : ℕ) (Does : List ℕ → List ℕ → Type 0) (values after : Spot → List ℕ)
    → (sound a ≡ true → (pre : List Chunk) (s asked : ℕ) (post : List Chunk) → BlockAt a b pre s asked post
    → Does (values (at pre (live s asked) post)) (after (at pre (live s asked) post)))
    → Case fields a (BlockRefused a b) Does
    (settle fields a (pass (arena_gate a) (on_block (held b (chunks_of a)) (done (values (held b (chunks_of a))) (after (held b (chunks_of a)))))))
block_case a b fields Does values after f = go (checked a) (block_search a b)
  where
    go : {arena : Gate} {spot : Spot} → Checked a arena → BlockSearch a b spot
        → Case fields a (BlockRefused a b) Does (settle fields a (pass arena (on_block spot (done (values spot) (after spot)))))
    go (unlawful e) h = refuses Length e
    go (damaged e d) h = refuses Damaged (e, d)
    go (whole e) (no_block h) = refuses NotABlock (e, h)
    go (whole e) (a_block pre s asked post is) = does (f e pre s asked post is)

pub data Frees (a : List ℕ) (b : ℕ) : List ℕ → List ℕ → Type 0 where
  frees : sound a ≡ true → (pre : List Chunk) (s asked : ℕ) (post : List Chunk) → BlockAt a b pre s asked post
      → Frees a b [] (written (joined (pre ++ free s ∷ post)) a)

pub free_case : (a : List ℕ) (b : ℕ) → Case 0 a (BlockRefused a b) (Frees a b) (free_on a b)
unfolding free_on
free_case a b = block_case a b 0 (Frees a b) (λ spot. []) (λ spot. written (released spot) a) frees

pub data Measures (a : List ℕ) (b : ℕ) : List ℕ → List ℕ → Type 0 where
  measures : sound a ≡ true → (pre : List Chunk) (s asked : ℕ) (post : List Chunk) → BlockAt a b pre s asked post
      → Measures a b (asked ∷ (s - header_words) ∷ []) a

pub size_case : (a : List ℕ) (b : ℕ) → Case 2 a (BlockRefused a b) (Measures a b) (size_on a b)
unfolding size_on
size_case a b = block_case a b 2 (Measures a b) (λ spot. asked_at spot ∷ granted_at spot ∷ []) (λ spot. a) measures

pub data Reports (a : List ℕ) : List ℕ → List ℕ → Type 0 where
  reports : sound a ≡ true
      → Reports a (free_words (chunks_of a) ∷ (widest (chunks_of a) - header_words) ∷ live_blocks (chunks_of a) ∷ free_chunks (chunks_of a) ∷ []) a

pub report_case : (a : List ℕ) → Case 4 a (ReportRefused a) (Reports a) (report_on a)
unfolding report_on
report_case a = go (checked a)
  where
    go : {arena : Gate} → Checked a arena
        → Case 4 a (ReportRefused a) (Reports a)
        (settle 4 a (pass arena (done (free_words (chunks_of a) ∷ (widest (chunks_of a) - header_words) ∷ live_blocks (chunks_of a) ∷ free_chunks
        (chunks_of a) ∷ []) a)))
    go (unlawful e) = refuses Length e
    go (damaged e f) = refuses Damaged (e, f)
    go (whole e) = does (reports e)
