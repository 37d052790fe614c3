-- What a request for a new block comes to, for an alloc under any policy: it is refused by a gate, or all depends on
-- what the policy picks.
use mathlib.Core.Path.{◌≡◌, refl, sym, ap, ◌∙◌}
use mathlib.Core.Logic.{◌≢◌}
use mathlib.Core.Bool.{true, cond}
use mathlib.Core.List.{List}
use Prim.Native.Nat.{ℕ}
use native.Mathlib.Omega.{arith}
use lib.Dec.{eqb}
use lib.ListN.{length}
use Rattle.layout.specs.Numbers.{need}
use Rattle.layout.specs.Chunks.{free}
use Rattle.layout.specs.Walk.{sound, chunks_of}
use Rattle.layout.specs.Reasons.{arena_gate, request_gate}
use Rattle.layout.specs.Reasons.{Gate}
use Rattle.std.specs.Prelude.{Option, Ok, Err}
use Rattle.layout.specs.declared.Ask.{Ask}
use Rattle.layout.specs.declared.Reason.{Reason}
use Rattle.layout.specs.declared.Reason.TheVariants.{NoRoom}
use Rattle.layout.proofs.Reasons.{number_positive}
use Rattle.layout.proofs.Round.{sound_lawful, sound_chunks, sound_around}
use Rattle.rules.specs.Answers.{Answer, Gives, refusal, settle}
use Rattle.rules.specs.Spots.{Spot, nowhere, at, start_of}
use Rattle.rules.specs.Rooms.{Needed}
use Rattle.rules.specs.Fits.{Policy, next_fit_policy}
use Rattle.rules.specs.Picks.{Picks, no_gap, a_gap, Fitting}
use Rattle.rules.specs.Calls.{granted, alloc_by, rover_after, Roves}
use Rattle.rules.proofs.Gates.{gate_open, request_open}
use Rattle.rules.proofs.Fits.{next_fitting}
use Rattle.rules.proofs.Rovers.{rover_stays}
use Rattle.answers.specs.Readings.{Granted, granted_numbers}
use Rattle.passes.specs.Places.{place_of}
use Rattle.passes.specs.declared.places.Place.{Place}
use Rattle.ways.specs.Ways.{allotting, Picked}
use Rattle.targets.specs.Targets.{past, ask_of, need_in, asked_for, GrantsFrom, start_in, StartSmall}

-- a spot that was picked in a sound arena starts within it
start_small : (a : List ℕ) (words : ℕ) → sound a ≡ true → {spot : Spot} → Picks (chunks_of a) words spot → StartSmall (place_of spot)
unfolding place_of
start_small a words e (no_gap none) = omega arith
start_small a words e (a_gap pre s post gap) =
    omega (arith, sound_around a pre (free s) post e gap.0, (sound_chunks a e).law.most)

module _ (a : List ℕ) (n : ℕ) where
  -- under every policy the call is refused for the reason
  pub ask_refused : (why : Reason) → Err why ≡ asked_for a n → (policy : Policy) → Gives (alloc_by policy a n) (refusal 2 why) a
  unfolding alloc_by asked_for need_in
  ask_refused why e policy = go (arena_gate a) refl (request_gate (length a) n) refl e
    where
      go : (arena : Gate) → arena_gate a ≡ arena → (request : Gate) → request_gate (length a) n ≡ request
          → Err why ≡ past arena (past request (Ok (ask_of n)))
          → Gives (alloc_by policy a n) (refusal 2 why) a
      go (Err r) q request h p = let is : why ≡ r = cc in rw (q, is) (record { answers = refl; leaves = refl })
      go (Ok _) q (Err r) h p = let is : why ≡ r = cc in rw (q, h, is) (record { answers = refl; leaves = refl })
      go (Ok _) q (Ok _) h p = cc

  -- an ask: whoever grants what a policy picks for it does what the call under that policy comes to
  pub record Wanting (ask : Ask) : Type 0 where
    pub is_sound : sound a ≡ true
    pub needed : Needed ask.need ask.asked
    pub need_is : ask.need ≡ need n
    pub gives : (policy : Policy) {answer : Answer} {after : List ℕ}
        → Gives (settle 2 a (granted NoRoom (allotting ask.need ask.asked (policy ask.need (chunks_of a)) a))) answer after
        → Gives (alloc_by policy a n) answer after

  pub ask_wanted : (ask : Ask) → Ok ask ≡ asked_for a n → Wanting ask
  unfolding alloc_by asked_for need_in
  ask_wanted ask e = go (arena_gate a) refl (request_gate (length a) n) refl e
    where
      go : (arena : Gate) → arena_gate a ≡ arena → (request : Gate) → request_gate (length a) n ≡ request
          → Ok ask ≡ past arena (past request (Ok (ask_of n)))
          → Wanting ask
      go (Err r) q request h p = cc
      go (Ok _) q (Err r) h p = cc
      go (Ok _) q (Ok _) h p =
          let same : ask ≡ ask_of n = cc in
          let e = gate_open a (sym q) in
          rw same
          (record {
            is_sound = e;
            need_is = refl;
            needed = request_open (length a) n (sound_lawful a e) (sym h);
            gives = λ policy g. rw (q, h) g;
          })

-- what a search by a fitting policy answered is picked, and to grant it is the call under that policy
module _ (policy : Policy) (fitting : Fitting policy) {a : List ℕ} {n : ℕ} {ask : Ask} (w : Wanting a n ask) {place : Option Place}
    (searched : place ≡ place_of (policy ask.need (chunks_of a))) where
  pub picked_by : Picked a ask.need ask.asked place
  picked_by = (w.is_sound, w.needed, (policy ask.need (chunks_of a), (fitting ask.need (chunks_of a), searched)))

  pub granted_by : (answer : Granted) (after : List ℕ) → GrantsFrom a ask.need ask.asked place answer after
      → Gives (alloc_by policy a n) (granted_numbers answer) after
  granted_by answer after g = w.gives policy (g (policy ask.need (chunks_of a)) (fitting ask.need (chunks_of a), searched))

-- ---- next fit

module _ (a : List ℕ) (rover n : ℕ) where
  -- a call that is refused by a gate leaves the rover
  pub refused_roves : (why : Reason) → Err why ≡ asked_for a n → Roves a rover n (refusal 2 why) a rover
  refused_roves why e =
      let g = ask_refused a n why e (next_fit_policy rover) in
      record { gives = g; moves = sym (rover_stays a rover n (refused g)) }
    where
      refused : Gives (alloc_by (next_fit_policy rover) a n) (refusal 2 why) a → (alloc_by (next_fit_policy rover) a n).answer.code ≢ 0
      refused g z = omega (arith, number_positive why, rw (← g.answers) at z)

  rover_found : (ask : Ask) → Wanting a n ask → rover_after a rover n ≡ start_in rover (place_of (next_fit_policy rover ask.need (chunks_of a)))
  unfolding rover_after place_of
  rover_found ask w =
      let told = (w.gives (next_fit_policy rover) (record { answers = refl; leaves = refl })).answers in
      rw (← told, ← w.need_is) (go (next_fit_policy rover ask.need (chunks_of a)))
    where
      go : (spot : Spot) → cond (eqb (settle 2 a (granted NoRoom (allotting ask.need ask.asked spot a))).answer.code 0) (start_of spot) rover
          ≡ start_in rover (place_of spot)
      go nowhere = refl
      go (at pre k post) = refl

  -- otherwise it is where the chunk starts that was found, if one was
  module _ {ask : Ask} (w : Wanting a n ask) {place : Option Place} (searched : place ≡ place_of (next_fit_policy rover ask.need (chunks_of a))) where
    pub found_roves : (answer : Granted) (after : List ℕ) → GrantsFrom a ask.need ask.asked place answer after
        → Roves a rover n (granted_numbers answer) after (start_in rover place)
    found_roves answer after g =
        record {
          gives = granted_by (next_fit_policy rover) (next_fitting rover) w searched answer after g;
          moves = ap (start_in rover) searched ∙ sym (rover_found ask w);
        }

    pub found_small : StartSmall place
    found_small = rw searched (start_small a ask.need w.is_sound (next_fitting rover ask.need (chunks_of a)))
