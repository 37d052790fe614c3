-- When alloc, relocate and realloc are refused for want of room, when a resize would move its block, and what a block
-- beside a gap is granted, told by the ledger: the gaps that its blocks leave are the arena's free chunks, and gaps of
-- 0 words.
use mathlib.Core.Path.{◌≡◌, sym, ap, ◌∙◌}
use mathlib.Core.Logic.Iff
use mathlib.Core.Logic.{◌↔◌}
use mathlib.Core.Bool.{true, false}
use mathlib.Core.List.{List, [], ◌∷◌, ◌++◌}
use Prim.Native.Nat.{ℕ, ◌+◌, ◌-◌, ◌≤◌, ◌<◌}
use native.Mathlib.Omega.{arith}
use lib.ListN.{length}
use Rattle.layout.specs.Numbers.{first_chunk, header_words, need}
use Rattle.layout.specs.Chunks.{Chunk, free, live, total}
use Rattle.layout.specs.Walk.{sound, chunks_of}
use Rattle.layout.specs.Reasons.{number}
use Rattle.layout.specs.declared.Reason.{Reason}
use Rattle.layout.specs.declared.Reason.TheVariants.{NoRoom, WouldMove}
use Rattle.layout.proofs.Holds.{total_append}
use Rattle.rules.specs.Rooms.{room_words}
use Rattle.rules.specs.Answers.{Answer, Outcome, success}
use Rattle.rules.specs.Fits.{Policy}
use Rattle.rules.specs.Picks.{Fitting}
use Rattle.rules.specs.Calls.{alloc_by, resize_on, relocate_on, realloc_on}
use Rattle.rules.specs.Stands.{NoGap}
use Rattle.rules.specs.Causes.{LawfulRequest, Grounds, Short, ShortBlock, RegrantRefused}
use Rattle.rules.proofs.Joining.{spaced_after}
use Rattle.rules.proofs.Searches.{BlockAt, block_sizes, one_block, no_gap_shorter}
use Rattle.rules.proofs.Rooms.{short_room}
use Rattle.rules.proofs.Shrinking.{resize_hands_over, realloc_hands_over}
use Rattle.rules.proofs.Given.{only_last}
use Rattle.rules.proofs.Calls.{alloc_by_behaves, resize_behaves, relocate_behaves, realloc_behaves}
use Rattle.ledger.specs.Ledger.{Entry, Ledger, Done, Listed, ends}
use Rattle.ledger.specs.Gaps.{gap_from, gaps, EachShorter, RoomShorter}
use Rattle.ledger.specs.Demands.{RefusedWhen}
use Rattle.ledger.proofs.Blocks.{Chunked}
use Rattle.ledger.proofs.Agreeing.{Agrees, chunked_block, agrees_lawful, agrees_chunked, listed_chunked}
use Rattle.ledger.proofs.Gaps.{gaps_in, gaps_blocks, gaps_shorter, gap_above}

-- a call on a sound arena, where block and request give no reason, is refused for the last of its reasons or done
refused_when : (a : List ℕ) (block zero large room stuck : Type 0) → sound a ≡ true → (block → ⊥) → (zero → ⊥) → (large → ⊥)
    → (last : Reason) (TooShort : Type 0) (answer : Answer)
    → (answer.code ≡ number last) ↔ Grounds a block zero large room stuck last
    → Done answer ↔ ((why : Reason) → Grounds a block zero large room stuck why → ⊥)
    → (room → TooShort) → (stuck → TooShort) → (TooShort → Grounds a block zero large room stuck last)
    → RefusedWhen last TooShort answer
refused_when a block zero large room stuck e b z m last TooShort answer refused done no_room would_move short =
    let only = only_last a block zero large room stuck e b z m TooShort no_room would_move in
    record {
      refused = (λ q. only last (refused.0 q), λ h. refused.1 (short h));
      done = (λ q h. done.0 q last (short h), λ enough. done.1 (λ why h. enough (only why h)));
    }

-- ---- the gaps of the ledger and the chunks of the arena

module _ (n : ℕ) (a : List ℕ) (ledger : Ledger) (agrees : Agrees n a ledger) where
  pub gaps_agree : gaps n ledger ≡ gaps_in 0 (chunks_of a)
  gaps_agree =
      let law = agrees_lawful n a ledger agrees in
      rw agrees.lists (gaps_blocks n _ first_chunk 0 (chunks_of a) (omega arith) (sym law.fills) law.sizes)

  pub no_gap : (w : ℕ) → NoGap a (need w) ↔ EachShorter (need w) (gaps n ledger)
  no_gap w =
      rw gaps_agree (Iff.trans (no_gap_shorter a (need w))
      (Iff.symm (gaps_shorter (need w) (chunks_of a) (agrees_lawful n a ledger agrees).spaced (omega arith))))

  -- a block with its header is its chunk
  pub block_whole : (above : Ledger) (e : Entry) (k : Chunked first_chunk (chunks_of a) e above) → header_words + e.granted ≡ k.s
  block_whole above e k =
      omega (arith, (block_sizes a _ _ _ _ _ agrees.is_sound (chunked_block k)).1, ap (λ (f : Entry). f.granted) k.is)

  -- and with the gap right above it, its room
  pub block_room : (above : Ledger) (e : Entry) (k : Chunked first_chunk (chunks_of a) e above)
      → header_words + e.granted + gap_from n (ends e) above ≡ room_words k.s k.post
  block_room above e k =
      let law = agrees_lawful n a ledger agrees in
      let whole = block_whole above e k in
      let end : ends e ≡ first_chunk + total k.pre + k.s = omega (arith, ap (λ (f : Entry). f.block) k.is) in
      let fills = ap total k.same ∙ total_append k.pre (live k.s k.asked ∷ k.post) in
      rw (k.above_is, end, whole)
      (gap_above n (first_chunk + total k.pre + k.s) k.s k.post (omega (arith, law.fills))
      (spaced_after false k.pre k.s k.asked k.post (rw k.same at law.spaced)))

  short_block : (below above : Ledger) (e : Entry) → ledger ≡ below ++ e ∷ above → (w : ℕ)
      → ShortBlock a e.block (need w) ↔ RoomShorter (need w) n e above
  short_block below above e q w =
      let k = agrees_chunked n a ledger agrees below e above q in
      let is = chunked_block k in
      let own : ShortBlock a e.block (need w) ↔ Short k.s k.post (need w) = (
        λ (pre, s, asked, post, is', short). let same = one_block a e.block k.pre pre k.s s k.asked asked k.post post
            agrees.is_sound is is' in
            rw (same.0, same.1) at short,
        λ short. (k.pre, k.s, k.asked, k.post, is, short),
      ) in
      let by_chunks = Iff.trans own (short_room k.s k.post (need w)) in (
        λ short. omega (arith, block_room above e k, by_chunks.0 short),
        λ short. by_chunks.1 (omega (arith, block_room above e k, short)),
      )

  lawful_request : (w : ℕ) → LawfulRequest n w → LawfulRequest (length a) w
  lawful_request w r = (r.0, omega (arith, agrees.long))

  -- ---- the calls

  -- alloc under any policy that is fitting
  pub alloc_room : (policy : Policy) → Fitting policy → (w : ℕ) → LawfulRequest n w
      → RefusedWhen NoRoom (EachShorter (need w) (gaps n ledger)) (alloc_by policy a w).answer
  alloc_room policy fitting w r =
      let behaves = alloc_by_behaves a policy fitting w in
      let gap = no_gap w in
      let request = lawful_request w r in
      refused_when a _ _ _ _ _ agrees.is_sound (λ h. h) (λ z. omega arith) (λ m. omega arith) _ _ _ (behaves.refused NoRoom)
      behaves.done
      (λ h. gap.0 h.1) (λ h. absurd h) (λ short. (agrees.is_sound, (request, gap.1 short)))

  -- a call that grants a block of the ledger anew
  regrant_room : (pre : List Chunk) (s asked : ℕ) (post : List Chunk) (b : ℕ) → BlockAt a b pre s asked post → (w : ℕ) → LawfulRequest n w
      → (room stuck : Type 0) (last : Reason) (TooShort : Type 0) (answer : Answer)
      → (answer.code ≡ number last) ↔ RegrantRefused a b w room stuck last → Done answer ↔ ((why : Reason) → RegrantRefused a b w room stuck why → ⊥)
      → (room → TooShort) → (stuck → TooShort) → (TooShort → RegrantRefused a b w room stuck last)
      → RefusedWhen last TooShort answer
  regrant_room pre s asked post b is w r room stuck last TooShort answer =
      let request = lawful_request w r in
      refused_when a _ _ _ room stuck agrees.is_sound (λ none. none (pre, s, asked, post, is)) (λ h. omega (arith, h.1))
      (λ h. omega (arith, h.1)) last TooShort answer

  pub relocate_room : (e : Entry) → Listed ledger e → (w : ℕ) → LawfulRequest n w
      → RefusedWhen NoRoom (EachShorter (need w) (gaps n ledger)) (relocate_on a e.block w).answer
  relocate_room e listed w r =
      let gap = no_gap w in
      let (above, k) = listed_chunked n a ledger agrees e listed in
      let is = chunked_block k in
      regrant_room k.pre k.s k.asked k.post e.block is w r _ _ _ _ _ ((relocate_behaves a e.block w).refused NoRoom)
      (relocate_behaves a e.block w).done
      (λ h. gap.0 h.2) (λ h. absurd h) (λ short. (agrees.is_sound, (lawful_request w r, (k.pre, k.s, k.asked, k.post, is), gap.1 short)))

  module _ (below above : Ledger) (e : Entry) (q : ledger ≡ below ++ e ∷ above) (w : ℕ) (r : LawfulRequest n w) where
    pub resize_room : RefusedWhen WouldMove (RoomShorter (need w) n e above) (resize_on a e.block w).answer
    resize_room =
        let own = short_block below above e q w in
        let k = agrees_chunked n a ledger agrees below e above q in
        regrant_room k.pre k.s k.asked k.post e.block (chunked_block k) w r _ _ _ _ _ ((resize_behaves a e.block w).refused WouldMove)
        (resize_behaves a e.block w).done
        (λ h. absurd h) (λ h. own.0 h.1) (λ short. (agrees.is_sound, (lawful_request w r, own.1 short)))

    pub realloc_room : RefusedWhen NoRoom (EachShorter (need w) (gaps n ledger) × RoomShorter (need w) n e above) (realloc_on a e.block w).answer
    realloc_room =
        let gap = no_gap w in
        let own = short_block below above e q w in
        let k = agrees_chunked n a ledger agrees below e above q in
        regrant_room k.pre k.s k.asked k.post e.block (chunked_block k) w r _ _ _ _ _ ((realloc_behaves a e.block w).refused NoRoom)
        (realloc_behaves a e.block w).done
        (λ h. (gap.0 h.2, own.0 h.1)) (λ h. absurd h)
        (λ short. (agrees.is_sound, (lawful_request w r, own.1 short.1, gap.1 short.0)))

    -- ---- beside a gap a block gives up all that its need leaves over

    -- a free chunk stands right after the block
    abbrev BesideFree : Type 0
    BesideFree = (pre : List Chunk) × (s : ℕ) × (asked : ℕ) × (t : ℕ) × (post : List Chunk) × BlockAt a e.block pre s asked (free t ∷ post)
        × (header_words + e.granted ≡ s)

    -- a gap right above it is one
    gap_chunk : 0 < gap_from n (ends e) above → BesideFree
    gap_chunk gap = go k.post (chunked_block k) (omega (arith, block_room above e k, block_whole above e k))
      where
        k : Chunked first_chunk (chunks_of a) e above
        k = agrees_chunked n a ledger agrees below e above q

        go : (post : List Chunk) → BlockAt a e.block k.pre k.s k.asked post → k.s < room_words k.s post → BesideFree
        go [] is more = absurd (omega arith)
        go (live t other ∷ post) is more = absurd (omega arith)
        go (free t ∷ post) is more = (k.pre, k.s, k.asked, t, post, is, block_whole above e k)

    module _ (gap : 0 < gap_from n (ends e) above) (enough : need w ≤ header_words + e.granted) where
      pub resize_shrinks : (resize_on a e.block w).answer ≡ success (e.block ∷ (need w - header_words) ∷ [])
      resize_shrinks =
          let (pre, s, asked, t, post, is, whole) = gap_chunk gap in
          ap (λ (o : Outcome). o.answer) (resize_hands_over a e.block pre s asked t post agrees.is_sound is w (lawful_request w r) (omega arith))

      pub realloc_shrinks : (realloc_on a e.block w).answer ≡ success (e.block ∷ (need w - header_words) ∷ [])
      realloc_shrinks =
          let (pre, s, asked, t, post, is, whole) = gap_chunk gap in
          ap (λ (o : Outcome). o.answer) (realloc_hands_over a e.block pre s asked t post agrees.is_sound is w (lawful_request w r) (omega arith))
