-- Item 6 in a ledger's gaps: how many crumbs a call leaves, and that a grant beyond its need takes all that is there.
use mathlib.Core.Path.{◌≡◌, refl, ap, ◌∙◌}
use mathlib.Core.Logic.{◌⊎◌, inl, inr, ⊎_elim}
use mathlib.Core.Bool.{false}
use mathlib.Core.List.{List, [], ◌∷◌, ◌++◌}
use Prim.Native.Nat.{ℕ, ◌+◌, ◌-◌, ◌≤◌}
use native.Mathlib.Omega.{arith}
use Rattle.layout.specs.Numbers.{first_chunk, header_words, need}
use Rattle.layout.specs.Chunks.{Chunk}
use Rattle.layout.specs.Walk.{chunks_of}
use Rattle.rules.specs.Rules.{free_chunks}
use Rattle.rules.specs.Rooms.{room_words}
use Rattle.rules.specs.Crumbs.{crumb, counted, free_sizes}
use Rattle.rules.specs.Fits.{Fit, Policies}
use Rattle.rules.specs.Picks.{AllFitting}
use Rattle.rules.specs.Libraries.{Call, alloc, free, resize, relocate, realloc, library_by}
use Rattle.rules.proofs.Searches.{BlockAt}
use Rattle.rules.proofs.Crumbs.{crumbs_of, alloc_by_crumbs, resize_crumbs, realloc_stays_crumbs, free_crumbs, relocate_crumbs, realloc_crumbs}
use Rattle.rules.proofs.Wholes.{alloc_by_whole, resize_whole, realloc_whole}
use Rattle.ledger.specs.Events.{call}
use Rattle.ledger.specs.Ledger.{Entry, Ledger, ends}
use Rattle.ledger.specs.Gaps.{gap_from, gaps, hole, holes}
use Rattle.ledger.specs.Runs.{State, Run, after, next}
use Rattle.ledger.specs.Demands.{NoMoreCrumbs, StaysWithoutCrumb, OneCrumbMore, NeedOrGap, NeedOrRoom}
use Rattle.ledger.proofs.Blocks.{Chunked}
use Rattle.ledger.proofs.Agreeing.{agrees_lawful, agrees_chunked, listed_chunked, chunked_block}
use Rattle.ledger.proofs.Gaps.{gaps_counted, free_holes}
use Rattle.ledger.proofs.WantOfRoom.{gaps_agree, block_whole, block_room}
use Rattle.ledger.proofs.Runs.{run_agrees}

-- a gap that begins so many words later has so many words less
gap_later : (n c more : ℕ) (above : Ledger) → gap_from n (c + more) above ≡ gap_from n c above - more
gap_later n c more [] = omega arith
gap_later n c more (e ∷ es) = omega arith

-- our calls, under any policies that are fitting
module _ (policies : Policies) (fitting : AllFitting policies) where
  -- ---- what the gaps count in a run

  run_counted : (count : ℕ → ℕ) → count 0 ≡ 0 → {n : ℕ} {s : State} → Run (library_by policies) n s
      → counted count (gaps n s.ledger) ≡ counted count (free_sizes (chunks_of s.words))
  run_counted count nothing {n} {s} run =
      let g = run_agrees policies fitting run in
      rw (gaps_agree n s.words s.ledger g)
      (gaps_counted count nothing 0 false (chunks_of s.words) (agrees_lawful n s.words s.ledger g).spaced (λ e. refl)
      ∙ omega (arith, nothing))

  -- the gaps that have words are the free chunks
  pub run_holes : {n : ℕ} {s : State} → Run (library_by policies) n s → holes (gaps n s.ledger) ≡ free_chunks (chunks_of s.words)
  run_holes {n} {s} run = run_counted hole refl run ∙ free_holes (chunks_of s.words)
      (agrees_lawful n s.words s.ledger (run_agrees policies fitting run)).sizes

  -- ---- crumbs

  -- so it is enough to look at the arena
  by_arena : {n : ℕ} {s : State} → Run (library_by policies) n s → (c : Call) (more : ℕ)
      → crumbs_of (library_by policies c s.words).words ≤ more + crumbs_of s.words
      → counted crumb (gaps n (after (library_by policies) (call c) s).ledger) ≤ more + counted crumb (gaps n s.ledger)
  by_arena run c more few = omega (arith, few, run_counted crumb refl run, run_counted crumb refl (next run (call c) tt))

  pub crumbs_after_alloc : (fit : Fit) (w : ℕ) → NoMoreCrumbs (library_by policies) (alloc fit w)
  crumbs_after_alloc fit w n s run =
      omega (arith, by_arena run (alloc fit w) 0 (omega (arith, alloc_by_crumbs s.words (policies fit) (fitting fit) w)))

  pub crumbs_after_resize : (b w : ℕ) → NoMoreCrumbs (library_by policies) (resize b w)
  crumbs_after_resize b w n s run = omega (arith, by_arena run (resize b w) 0 (omega (arith, resize_crumbs s.words b w)))

  pub realloc_stays_without_crumb : (w : ℕ) → StaysWithoutCrumb (library_by policies) (λ b. realloc b w)
  realloc_stays_without_crumb w n s run b stays =
      omega (arith, by_arena run (realloc b w) 0 (omega (arith, realloc_stays_crumbs s.words b w stays)))

  -- a block of the ledger is a chunk, with its header
  listed_crumbs : (calls : ℕ → Call)
      → ((a : List ℕ) (b : ℕ) (pre : List Chunk) (s asked : ℕ) (post : List Chunk) → BlockAt a b pre s asked post
      → crumbs_of (library_by policies (calls b) a).words ≤ crumb s + crumbs_of a)
      → OneCrumbMore (library_by policies) calls
  listed_crumbs calls few n s run e listed =
      let g = run_agrees policies fitting run in
      let (above, k) = listed_chunked n s.words s.ledger g e listed in
      let more = by_arena run (calls e.block) (crumb k.s) (few s.words e.block k.pre k.s k.asked k.post (chunked_block k)) in
      omega (arith, more, ap crumb (block_whole n s.words s.ledger g above e k))

  pub crumbs_after_free : OneCrumbMore (library_by policies) free
  crumbs_after_free = listed_crumbs free free_crumbs

  pub crumbs_after_relocate : (w : ℕ) → OneCrumbMore (library_by policies) (λ b. relocate b w)
  crumbs_after_relocate w = listed_crumbs (λ b. relocate b w) (λ a b pre s asked post is. relocate_crumbs a b pre s asked post is w)

  pub crumbs_after_realloc : (w : ℕ) → OneCrumbMore (library_by policies) (λ b. realloc b w)
  crumbs_after_realloc w = listed_crumbs (λ b. realloc b w) (λ a b pre s asked post is. realloc_crumbs a b pre s asked post is w)

  -- ---- a grant beyond its need

  pub alloc_need_or_gap : (fit : Fit) → NeedOrGap (library_by policies) (alloc fit)
  alloc_need_or_gap fit n s run w done =
      ⊎_elim inl (λ one. inr (omega (arith, one, run_holes run, run_holes (next run (call (alloc fit w)) tt))))
      (alloc_by_whole s.words (policies fit) (fitting fit) w done)

  module _ (n : ℕ) (s : State) (run : Run (library_by policies) n s) (below above : Ledger) (e : Entry) (q : s.ledger ≡ below ++ e ∷ above) where
    chunk : Chunked first_chunk (chunks_of s.words) e above
    chunk = agrees_chunked n s.words s.ledger (run_agrees policies fitting run) below e above q

    -- a block that has just its need, or its whole room, has just its need, or no gap right above it
    or_room : (needed granted : ℕ) → (header_words + granted ≡ needed) ⊎ (header_words + granted ≡ room_words chunk.s chunk.post)
        → (header_words + granted ≡ needed) ⊎ (gap_from n (e.block + granted) above ≡ 0)
    or_room needed granted =
        let room = block_room n s.words s.ledger (run_agrees policies fitting run) above e chunk in
        let gap = gap_from n (ends e) above in
        ⊎_elim inl
        (λ all. let end : e.block + granted ≡ ends e + gap = omega (arith, room, all) in
        inr (ap (λ (c : ℕ). gap_from n c above) end ∙ gap_later n (ends e) gap above ∙ omega arith))

  pub resize_need_or_room : NeedOrRoom (library_by policies) resize
  resize_need_or_room n s run below above e q w done stays =
      let k = chunk n s run below above e q in
      or_room n s run below above e q (need w) _ (resize_whole s.words e.block k.pre k.s k.asked k.post (chunked_block k) w done)

  pub realloc_need_or_room : NeedOrRoom (library_by policies) realloc
  realloc_need_or_room n s run below above e q w done stays =
      let k = chunk n s run below above e q in
      or_room n s run below above e q (need w) _ (realloc_whole s.words e.block k.pre k.s k.asked k.post (chunked_block k) w done stays)
