-- The reasons of a call: one that is given is so, and one that is so is given.
use mathlib.Core.Path.{◌≡◌, refl, sym, ◌∙◌, subst}
use mathlib.Core.Logic.{◌↔◌}
use mathlib.Core.Bool.{true, false, true≢false}
use mathlib.Core.List.{List, [], ◌∷◌}
use Prim.Native.Nat.{ℕ}
use native.Mathlib.Omega.{arith}
use lib.ListN.{length}
use Rattle.layout.specs.Numbers.{lawful, need}
use Rattle.layout.specs.Chunks.{Chunk, written}
use Rattle.layout.specs.Walk.{sound, chunks_of}
use Rattle.layout.specs.Reasons.{number, arena_gate}
use Rattle.layout.specs.declared.Reason.{Reason}
use Rattle.layout.specs.declared.Reason.TheVariants.{Length, Damaged, NotABlock, Zero, TooLarge, NoRoom, Frame, WouldMove, TextRoom}
use Rattle.layout.proofs.Reasons.{number_positive, number_injective}
use Rattle.rules.specs.Answers.{Outcome, done, settle, pass}
use Rattle.rules.specs.Spots.{held}
use Rattle.rules.specs.Rules.{Way, released, asked_at, granted_at, Regrant, regranted, resized, relocated}
use Rattle.rules.specs.Calls.{on_block, granted, start_on, alloc_by, free_on, regrant_by, resize_on, relocate_on, realloc_on, size_on, report_on}
use Rattle.layout.proofs.Round.{sound_lawful}
use Rattle.rules.proofs.Gates.{unlawful_gate, damaged_gate, sound_gate, zero_gate, large_gate, request_gate_lem}
use Rattle.rules.proofs.Searches.{no_block_held, block_held}
use Rattle.rules.specs.Fits.{Policy, first_fit_policy}
use Rattle.rules.specs.Picks.{Fitting}
use Rattle.rules.proofs.Fits.{first_fitting, picks_nowhere}
use Rattle.rules.specs.Causes.{Grounds, Short, StartRefused, ReportRefused, BlockRefused, AllocRefused, RegrantRefused, ResizeRefused}
use Rattle.rules.specs.Causes.{RelocateRefused, ReallocRefused}
use Rattle.rules.proofs.CallCases.{Case, refuses, does, refused_unchanged}
use Rattle.rules.proofs.Staying.{kept_numbers}
use Rattle.rules.proofs.Rooms.{short_room}
use Rattle.rules.proofs.RegrantCases.{Stays, by_room, by_none, stays_told, resize_case}
use Rattle.rules.proofs.ThreeWays.{three_ways}

-- ---- the reason that is given is so

module _ {fields : ℕ} {a : List ℕ} {Refuses : Reason → Type 0} {Does : List ℕ → List ℕ → Type 0} where
  pub refused_for_lem : {outcome : Outcome} (why : Reason) → Case fields a Refuses Does outcome → outcome.answer.code ≡ number why → Refuses why
  refused_for_lem why (refuses r s) e = subst Refuses (number_injective r why e) s
  refused_for_lem why (does d) e = absurd (omega (arith, number_positive why))

  -- where each reason that is so is given, a call is done if none is so
  pub done_unless : {outcome : Outcome} → ((why : Reason) → Refuses why → outcome.answer.code ≡ number why) → Case fields a Refuses Does outcome
      → (outcome.answer.code ≡ 0) ↔ ((why : Reason) → Refuses why → ⊥)
  done_unless gives (refuses r s) = (λ e why so. omega (arith, number_positive r), λ none. absurd (none r s))
  done_unless gives (does d) = (λ e why so. omega (arith, gives why so, number_positive why), λ none. refl)

-- ---- the first two reasons, and the last two

module _ (a : List ℕ) (block zero large room stuck : Type 0) where
  -- a call that gives one of the first two has an unlawful length, or an arena that is not sound
  pub arena_refused : {code : ℕ} → ((why : Reason) → code ≡ number why → Grounds a block zero large room stuck why)
      → (code ≡ number Length → lawful (length a) ≡ false) × (code ≡ number Damaged → sound a ≡ false)
  arena_refused f = (f Length, λ e. (f Damaged e).1)

  -- on a sound arena, where block and request give no reason, one of the last two is left
  pub only_last : sound a ≡ true → (block → ⊥) → (zero → ⊥) → (large → ⊥) → (Last : Type 0) → (room → Last) → (stuck → Last)
      → (why : Reason) → Grounds a block zero large room stuck why → Last
  only_last e b z m Last no_room would_move Length l = absurd (true≢false (sym (sound_lawful a e) ∙ l))
  only_last e b z m Last no_room would_move Damaged h = absurd (true≢false (sym e ∙ h.1))
  only_last e b z m Last no_room would_move NotABlock h = absurd (b h.1)
  only_last e b z m Last no_room would_move Zero h = absurd (z h.1)
  only_last e b z m Last no_room would_move TooLarge h = absurd (m h.1)
  only_last e b z m Last no_room would_move NoRoom h = no_room h.1
  only_last e b z m Last no_room would_move Frame h = absurd h
  only_last e b z m Last no_room would_move WouldMove h = would_move h.1
  only_last e b z m Last no_room would_move TextRoom h = absurd h

-- ---- the reason that is so is given

module _ (a : List ℕ) where
  pub start_gives : (why : Reason) → StartRefused a why → (start_on a).answer.code ≡ number why
  unfolding start_on
  start_gives why (is, l) = rw (is, l)

  pub report_gives : (why : Reason) → ReportRefused a why → (report_on a).answer.code ≡ number why
  unfolding report_on
  report_gives Length l = rw (unlawful_gate a l)
  report_gives Damaged (l, s) = rw (damaged_gate a l s)
  report_gives NotABlock (e, h) = absurd h
  report_gives Zero (e, h) = absurd h
  report_gives TooLarge (e, h) = absurd h
  report_gives NoRoom (e, h) = absurd h
  report_gives Frame h = absurd h
  report_gives WouldMove (e, h) = absurd h
  report_gives TextRoom h = absurd h

  -- free and size
  block_gives : (b fields : ℕ) (values after : List ℕ) (why : Reason) → BlockRefused a b why
      → (settle fields a (pass (arena_gate a) (on_block (held b (chunks_of a)) (done values after)))).answer.code ≡ number why
  block_gives b fields values after Length l = rw (unlawful_gate a l)
  block_gives b fields values after Damaged (l, s) = rw (damaged_gate a l s)
  block_gives b fields values after NotABlock (e, h) = rw (sound_gate a e, no_block_held a b h)
  block_gives b fields values after Zero (e, h) = absurd h
  block_gives b fields values after TooLarge (e, h) = absurd h
  block_gives b fields values after NoRoom (e, h) = absurd h
  block_gives b fields values after Frame h = absurd h
  block_gives b fields values after WouldMove (e, h) = absurd h
  block_gives b fields values after TextRoom h = absurd h

  pub free_gives : (b : ℕ) (why : Reason) → BlockRefused a b why → (free_on a b).answer.code ≡ number why
  unfolding free_on
  free_gives b = block_gives b 0 [] (written (released (held b (chunks_of a))) a)

  pub size_gives : (b : ℕ) (why : Reason) → BlockRefused a b why → (size_on a b).answer.code ≡ number why
  unfolding size_on
  size_gives b = block_gives b 2 (asked_at (held b (chunks_of a)) ∷ granted_at (held b (chunks_of a)) ∷ []) a

  pub alloc_by_gives : (policy : Policy) → Fitting policy → (n : ℕ) (why : Reason) → AllocRefused a n why
      → (alloc_by policy a n).answer.code ≡ number why
  unfolding alloc_by
  alloc_by_gives policy fitting n Length l = rw (unlawful_gate a l)
  alloc_by_gives policy fitting n Damaged (l, s) = rw (damaged_gate a l s)
  alloc_by_gives policy fitting n NotABlock (e, h) = absurd h
  alloc_by_gives policy fitting n Zero (e, z) = rw (sound_gate a e, zero_gate a n z)
  alloc_by_gives policy fitting n TooLarge (e, m) = rw (sound_gate a e, large_gate a n m)
  alloc_by_gives policy fitting n NoRoom (e, (r, h)) =
      rw (sound_gate a e, request_gate_lem a n r, (picks_nowhere policy fitting (need n) (chunks_of a)).1 h)
  alloc_by_gives policy fitting n Frame h = absurd h
  alloc_by_gives policy fitting n WouldMove (e, h) = absurd h
  alloc_by_gives policy fitting n TextRoom h = absurd h

  -- a call that grants a block anew: its own are the last two
  regrant_gives : (b n : ℕ) (last : Reason) (rule : Regrant) (room stuck : Type 0) → let code = (regrant_by last rule a b n).answer.code in
      ((sound a ≡ true) × room → code ≡ number NoRoom) → ((sound a ≡ true) × stuck → code ≡ number WouldMove)
      → (why : Reason) → RegrantRefused a b n room stuck why → code ≡ number why
  unfolding regrant_by
  regrant_gives b n last rule room stuck no_room would_move Length l = rw (unlawful_gate a l)
  regrant_gives b n last rule room stuck no_room would_move Damaged (l, s) = rw (damaged_gate a l s)
  regrant_gives b n last rule room stuck no_room would_move NotABlock (e, h) = rw (sound_gate a e, no_block_held a b h)
  regrant_gives b n last rule room stuck no_room would_move Zero (e, ((pre, s, asked, post, is), z)) =
      rw (sound_gate a e, block_held a b pre s asked post e is, zero_gate a n z)
  regrant_gives b n last rule room stuck no_room would_move TooLarge (e, ((pre, s, asked, post, is), m)) =
      rw (sound_gate a e, block_held a b pre s asked post e is, large_gate a n m)
  regrant_gives b n last rule room stuck no_room would_move NoRoom h = no_room h
  regrant_gives b n last rule room stuck no_room would_move Frame h = absurd h
  regrant_gives b n last rule room stuck no_room would_move WouldMove h = would_move h
  regrant_gives b n last rule room stuck no_room would_move TextRoom h = absurd h

  pub resize_gives : (b n : ℕ) (why : Reason) → ResizeRefused a b n why → (resize_on a b n).answer.code ≡ number why
  unfolding regrant_by
  resize_gives b n = regrant_gives b n WouldMove resized _ _ (λ h. absurd h.1)
      (λ (e, (r, (pre, s, asked, post, is, l))). rw (sound_gate a e, block_held a b pre s asked post e is, request_gate_lem a n r)
      (go l (stays_told a b (need n) n pre s asked post e is)))
    where
      go : {pre post : List Chunk} {s : ℕ} {way : Way} → Short s post (need n) → Stays a b (need n) n pre s post way
          → (settle 2 a (granted WouldMove way)).answer.code ≡ number WouldMove
      go {post = post} {s = s} l (by_room keep k) = let m = kept_numbers (need n) s keep post k in
          absurd (omega (arith, (short_room s post (need n)).0 l))
      go l (by_none m) = refl

  pub relocate_gives : (b n : ℕ) (why : Reason) → RelocateRefused a b n why → (relocate_on a b n).answer.code ≡ number why
  unfolding regrant_by
  relocate_gives b n = regrant_gives b n NoRoom relocated _ _
      (λ (e, (r, (pre, s, asked, post, is), h)). rw
      (sound_gate a e, block_held a b pre s asked post e is, request_gate_lem a n r, (picks_nowhere first_fit_policy first_fitting (need n) (chunks_of a)).1 h))
      (λ h. absurd h.1)

  -- realloc lacks room where the resize would move the block and the move lacks room
  pub realloc_gives : (b n : ℕ) (why : Reason) → ReallocRefused a b n why → (realloc_on a b n).answer.code ≡ number why
  realloc_gives b n =
      regrant_gives b n NoRoom regranted _ _
      (λ (e, (r, short, h)). let (pre, s, asked, post, is, l) = short in
      let would = resize_gives b n WouldMove (e, (r, short)) in
      rw (
        ← three_ways a b n,
        would,
        refused_unchanged (resize_case a b n) (λ q. omega (arith, would, q)),
        relocate_gives b n NoRoom
            (e, (r, (pre, s, asked, post, is), h)),
      ))
      (λ h. absurd h.1)
