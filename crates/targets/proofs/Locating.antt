-- Where a call's block stands, or why the call is refused: what the two gates and the search come to, for every call on
-- a block.
use mathlib.Core.Path.{◌≡◌, refl, sym}
use mathlib.Core.Bool.{true}
use mathlib.Core.List.{List}
use Prim.Native.Nat.{ℕ}
use lib.ListN.{length}
use Rattle.std.specs.Prelude.{Option, Some, Result, Ok, Err, ok_or}
use Rattle.layout.specs.Numbers.{lawful}
use Rattle.layout.specs.Walk.{chunks_of}
use Rattle.layout.specs.Reasons.{Gate, arena_gate, request_gate}
use Rattle.layout.specs.declared.Reason.{Reason}
use Rattle.layout.specs.declared.Reason.TheVariants.{NotABlock}
use Rattle.rules.specs.Answers.{Gives, refusal, refused, pass}
use Rattle.rules.specs.Answers.{Result as RuleResult}
use Rattle.rules.specs.Spots.{Spot, nowhere, at, held}
use Rattle.rules.specs.Rules.{Regrant}
use Rattle.rules.specs.Calls.{on_block, regrant_by}
use Rattle.rules.specs.Rooms.{Needed}
use Rattle.layout.proofs.Round.{sound_lawful}
use Rattle.rules.proofs.Gates.{gate_open, request_open}
use Rattle.answers.specs.Readings.{granted_numbers}
use Rattle.answers.specs.declared.Grant.{Grant}
use Rattle.passes.specs.Places.{place_of, LiveAt}
use Rattle.passes.specs.declared.places.Place.{Place}
use Rattle.passes.proofs.Finding.{FoundBlock, found_block}
use Rattle.ways.specs.Ways.{FollowsAt}
use Rattle.targets.specs.Targets.{past, ask_of, need_in, located, target_by, target_of}
use Rattle.targets.specs.declared.Target.{Target}
use Rattle.targets.proofs.Granting.{way_gives}

-- the length of an arena that passes its gate is lawful
pub gate_lawful : (a : List ℕ) → Ok tt ≡ arena_gate a → lawful (length a) ≡ true
gate_lawful a e = sound_lawful a (gate_open a e)

-- ---- the block

module _ (a : List ℕ) (b : ℕ) where
  -- every call on the block is refused for the reason
  pub not_located : (why : Reason) → Err why ≡ located a b → (result : RuleResult)
      → pass (arena_gate a) (on_block (held b (chunks_of a)) result) ≡ refused why
  unfolding located place_of
  not_located why e result = go (arena_gate a) (held b (chunks_of a)) e
    where
      go : (gate : Gate) (spot : Spot) → Err why ≡ past gate (ok_or (place_of spot) NotABlock) → pass gate (on_block spot result) ≡ refused why
      go (Err r) spot p = cc
      go (Ok _) nowhere p = cc
      go (Ok _) (at pre k post) p = cc

  -- the arena is sound, and the block was found
  pub block_located : (place : Place) → Ok place ≡ located a b → (arena_gate a ≡ Ok tt) × FoundBlock a b place.link place.chunk
  unfolding located place_of
  block_located place e = go (arena_gate a) refl (held b (chunks_of a)) refl e
    where
      go : (gate : Gate) → arena_gate a ≡ gate → (spot : Spot) → held b (chunks_of a) ≡ spot
          → Ok place ≡ past gate (ok_or (place_of spot) NotABlock)
          → (arena_gate a ≡ Ok tt) × FoundBlock a b place.link place.chunk
      go (Err r) g spot q p = cc
      go (Ok _) g nowhere q p = cc
      go (Ok _) g (at pre k post) q p =
          let is : Some place ≡ place_of (at pre k post) = cc in
          (g, found_block a b place.link place.chunk (gate_open a (sym g)) (rw q is))

-- so the arena's length is lawful
pub located_lawful : (a : List ℕ) (b : ℕ) (place : Place) → Ok place ≡ located a b → lawful (length a) ≡ true
located_lawful a b place e = gate_lawful a (sym (block_located a b place e).0)

-- ---- the block and what is asked

module _ (a : List ℕ) (b n : ℕ) where
  -- every call that grants block `b` anew is refused for the reason
  pub target_refused : (why : Reason) → Err why ≡ target_of a b n → (last : Reason) (rule : Regrant)
      → Gives (regrant_by last rule a b n) (refusal 2 why) a
  unfolding regrant_by target_of need_in
  target_refused why e last rule = go (located a b) refl (request_gate (length a) n) refl e
    where
      go : (found : Result Place Reason) → located a b ≡ found → (request : Gate) → request_gate (length a) n ≡ request
          → Err why ≡ target_by found (past request (Ok (ask_of n)))
          → Gives (regrant_by last rule a b n) (refusal 2 why) a
      go (Err r) q request h p =
          let is : why ≡ r = cc in
          rw (not_located a b r (sym q) _, is) (record { answers = refl; leaves = refl })
      go (Ok place) q (Err r) h p =
          let is : why ≡ r = cc in
          let (opened, found) = block_located a b place (sym q) in
          rw (opened, found.4, h, is) (record { answers = refl; leaves = refl })
      go (Ok place) q (Ok _) h p = cc

  -- a live chunk and an ask: whoever follows a rule there does what the call of that rule comes to
  pub record Aimed (target : Target) : Type 0 where
    pub asked : LiveAt a target.place.link target.place.chunk × Needed target.ask.need target.ask.asked
    pub gives : (last : Reason) (rule : Regrant) (answer : Option Grant) (after : List ℕ)
        → FollowsAt rule a target.place.link target.place.chunk target.ask.need target.ask.asked answer after
        → Gives (regrant_by last rule a b n) (granted_numbers (ok_or answer last)) after

  pub target_aimed : (target : Target) → Ok target ≡ target_of a b n → Aimed target
  unfolding regrant_by target_of need_in
  target_aimed target e = go (located a b) refl (request_gate (length a) n) refl e
    where
      go : (found : Result Place Reason) → located a b ≡ found → (request : Gate) → request_gate (length a) n ≡ request
          → Ok target ≡ target_by found (past request (Ok (ask_of n)))
          → Aimed target
      go (Err r) q request h p = cc
      go (Ok place) q (Err r) h p = cc
      go (Ok place) q (Ok _) h p =
          let is : target ≡ record { place = place; ask = ask_of n } = cc in
          let (opened, found) = block_located a b place (sym q) in
          let (pre, s, asked, post, spot, st, number) = found in
          rw is
          (record {
            asked = ((pre, s, asked, post, st), request_open (length a) n (sound_lawful a st.is_sound) (sym h));
            gives = λ last rule answer after f. rw (opened, spot, h) (way_gives last _ a answer after (rw number at (f pre s asked post st)));
          })
