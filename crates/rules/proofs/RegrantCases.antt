-- What resize, relocate and realloc come to, case by case.
use mathlib.Core.Path.{◌≡◌, refl, sym}
use mathlib.Core.Bool.{Bool, true, false, cond}
use mathlib.Core.List.{List, [], ◌∷◌, ◌++◌}
use Prim.Native.Nat.{ℕ, ◌+◌, ◌-◌, ◌<◌, min}
use native.Mathlib.Omega.{arith}
use lib.Dec.{leb}
use lib.ListN.{length}
use borrow.Author.Tests.{leb-true, leb-false}
use Rattle.layout.specs.Numbers.{first_chunk, header_words, need}
use Rattle.layout.specs.Chunks.{Chunk, live, total, written}
use Rattle.layout.specs.Walk.{sound, chunks_of}
use Rattle.layout.specs.Reasons.{number}
use Rattle.layout.specs.Reasons.{Gate}
use Rattle.layout.specs.declared.Reason.{Reason}
use Rattle.layout.specs.declared.Reason.TheVariants.{Length, Damaged, NotABlock, Zero, TooLarge, NoRoom, WouldMove}
use Rattle.layout.proofs.Holds.{Sizes}
use Rattle.rules.specs.Answers.{Outcome, refused, settle, pass}
use Rattle.rules.specs.Spots.{Spot, at, held}
use Rattle.rules.specs.Fits.{first_fit_policy}
use Rattle.rules.specs.Picks.{Picks, no_gap, a_gap}
use Rattle.rules.specs.Rules.{Way, shut, or_else, taken, cut, trim, released, copied, grant_from, stay, shrink, grow, move, Regrant, regranted}
use Rattle.rules.specs.Rules.{resized, relocated}
use Rattle.rules.specs.Calls.{on_block, granted, regrant_by, resize_on, relocate_on, realloc_on}
use Rattle.rules.specs.Rooms.{room_words, room_after, kept_of}
use Rattle.rules.proofs.Rooms.{short_room}
use Rattle.rules.proofs.Staying.{in_room, KeepsOfRoom, keeps_of_room}
use Rattle.rules.proofs.Remainder.{shorter_old}
use Rattle.rules.specs.Stands.{GapAt}
use Rattle.rules.proofs.Fits.{first_fitting}
use Rattle.rules.proofs.Searches.{BlockAt, block_sizes, BlockSearch, no_block, a_block, block_search}
use Rattle.rules.specs.Causes.{LawfulRequest, Short, RegrantRefused, ResizeRefused, RelocateRefused, ReallocRefused}
use Rattle.rules.proofs.CallCases.{Case, refuses, does}
use Rattle.rules.proofs.Gates.{Checked, unlawful, damaged, whole, checked, Asked, for_none, for_more, for_some, request_asked}

-- ways 1 and 2, where the block of `s` words stands before `post`: it keeps words of its room, or its room is too short
pub data Stays (a : List ℕ) (b need w : ℕ) (pre : List Chunk) (s : ℕ) (post : List Chunk) : Way → Type 0 where
  by_room : (keep : ℕ) → KeepsOfRoom need s post keep → Stays a b need w pre s post (stay b keep w pre (room_words s post) (room_after post) a)
  by_none : Short s post need → Stays a b need w pre s post shut

pub stays_told : (a : List ℕ) (b need w : ℕ) (pre : List Chunk) (s asked : ℕ) (post : List Chunk) → sound a ≡ true → BlockAt a b pre s asked post
    → Stays a b need w pre s post (or_else (shrink b need w (at pre (live s asked) post) a) (grow b need w (at pre (live s asked) post) a))
stays_told a b need w pre s asked post e is = rw (in_room b need w pre s asked a post sizes) (go (leb need (room_words s post)) refl)
  where
    sizes : Sizes post
    sizes = (block_sizes a b pre s asked post e is).2

    go : (fits : Bool) → leb need (room_words s post) ≡ fits
        → Stays a b need w pre s post (cond fits (stay b (kept_of need s (room_words s post)) w pre (room_words s post) (room_after post) a) shut)
    go true q = by_room (kept_of need s (room_words s post)) (keeps_of_room need s post sizes (leb-true need (room_words s post) q))
    go false q = by_none ((short_room s post need).1 (leb-false need (room_words s post) q))

-- ---- what the three calls do

-- resize: the block keeps words of its room
pub data Resizes (a : List ℕ) (b n : ℕ) : List ℕ → List ℕ → Type 0 where
  resizes : sound a ≡ true → LawfulRequest (length a) n → (pre : List Chunk) (s asked : ℕ) (post : List Chunk) → BlockAt a b pre s asked post → (keep : ℕ)
      → KeepsOfRoom (need n) s post keep
      → Resizes a b n (b ∷ (keep - header_words) ∷ []) (written (pre ++ (trim keep n (room_words s post) ++ room_after post)) a)

-- relocate: the block moves to a new block of a free chunk that fits; which one, the definition says
pub data Relocates (a : List ℕ) (b n : ℕ) : List ℕ → List ℕ → Type 0 where
  moves : sound a ≡ true → LawfulRequest (length a) n → (pre : List Chunk) (s asked : ℕ) (post : List Chunk) → BlockAt a b pre s asked post
      → (before : List Chunk) (g : ℕ) (after : List Chunk) → GapAt a (need n) before g after
      → (block : ℕ) → block ≡ first_chunk + total before + (g - taken (need n) g) + header_words → (ks : List Chunk)
      → ks ≡ before ++ (cut (need n) n g ++ after)
      → (count : ℕ) → count ≡ min (s - header_words) (taken (need n) g - header_words)
      → Relocates a b n (block ∷ (taken (need n) g - header_words) ∷ []) (written (released (held b ks)) (copied b block count (written ks a)))

-- realloc: one or the other
pub data Regrants (a : List ℕ) (b n : ℕ) (values after : List ℕ) : Type 0 where
  in_place : Resizes a b n values after → Regrants a b n values after
  elsewhere : Relocates a b n values after → Regrants a b n values after

-- ---- the calls

module _ (a : List ℕ) (b n : ℕ) where
  -- what the calls that grant block `b` anew come to, by the last of the reasons and the rule of each: all are refused
  -- for one reason below the last, or each does what its rule says at the block
  pub data Regrantings (room stuck : Type 0) : (Reason → Regrant → Outcome) → Type 0 where
    all_refused : (why : Reason) → number why < number NoRoom → RegrantRefused a b n room stuck why
        → Regrantings room stuck (λ last rule. settle 2 a (refused why))
    at_block : sound a ≡ true → LawfulRequest (length a) n → (pre : List Chunk) (s asked : ℕ) (post : List Chunk) → BlockAt a b pre s asked post
        → Regrantings room stuck (λ last rule. settle 2 a
        (granted last (rule b (need n) n (at pre (live s asked) post) (grant_from (need n) n (first_fit_policy (need n) (chunks_of a))) a)))

  pub regrantings : (room stuck : Type 0) → Regrantings room stuck (λ last rule. regrant_by last rule a b n)
  unfolding regrant_by
  regrantings room stuck = go (checked a) (block_search a b) (request_asked (length a) n)
    where
      go : {arena request : Gate} {spot : Spot} → Checked a arena → BlockSearch a b spot → Asked (length a) n request
          → Regrantings room stuck
          (λ last rule. settle 2 a (pass arena
          (on_block spot (pass request (granted last (rule b (need n) n spot (grant_from (need n) n (first_fit_policy (need n) (chunks_of a))) a))))))
      go (unlawful e) h q = all_refused Length (omega arith) e
      go (damaged e f) h q = all_refused Damaged (omega arith) (e, f)
      go (whole e) (no_block h) q = all_refused NotABlock (omega arith) (e, h)
      go (whole e) (a_block pre s asked post is) (for_none z) = all_refused Zero (omega arith) (e, ((pre, s, asked, post, is), z))
      go (whole e) (a_block pre s asked post is) (for_more m) = all_refused TooLarge (omega arith) (e, ((pre, s, asked, post, is), m))
      go (whole e) (a_block pre s asked post is) (for_some r) = at_block e r pre s asked post is

  -- a call that grants a block anew is refused before its rule is asked, or all depends on the rule at the block
  regrant_case : (why : Reason) (rule : Regrant) (room stuck : Type 0) (Does : List ℕ → List ℕ → Type 0)
      → (sound a ≡ true → LawfulRequest (length a) n → (pre : List Chunk) (s asked : ℕ) (post : List Chunk) → BlockAt a b pre s asked post → (gap : Spot)
      → Picks (chunks_of a) (need n) gap
      → Case 2 a (RegrantRefused a b n room stuck) Does
      (settle 2 a (granted why (rule b (need n) n (at pre (live s asked) post) (grant_from (need n) n gap) a))))
      → Case 2 a (RegrantRefused a b n room stuck) Does (regrant_by why rule a b n)
  regrant_case why rule room stuck Does there = go (regrantings room stuck)
    where
      go : {call : Reason → Regrant → Outcome} → Regrantings room stuck call → Case 2 a (RegrantRefused a b n room stuck) Does (call why rule)
      go (all_refused r low so) = refuses r so
      go (at_block e r pre s asked post is) = there e r pre s asked post is _ (first_fitting (need n) (chunks_of a))

  pub resize_case : Case 2 a (ResizeRefused a b n) (Resizes a b n) (resize_on a b n)
  resize_case =
      regrant_case WouldMove resized _ _ (Resizes a b n) (λ e r pre s asked post is gap g. go pre s asked post e r is (stays_told a b (need n) n pre s asked post e is))
    where
      go : (pre : List Chunk) (s asked : ℕ) (post : List Chunk) {way : Way} → sound a ≡ true → LawfulRequest (length a) n → BlockAt a b pre s asked post
          → Stays a b (need n) n pre s post way
          → Case 2 a (ResizeRefused a b n) (Resizes a b n) (settle 2 a (granted WouldMove way))
      go pre s asked post e r is (by_room keep k) = does (resizes e r pre s asked post is keep k)
      go pre s asked post e r is (by_none l) = refuses WouldMove (e, (r, (pre, s, asked, post, is, l)))

  pub relocate_case : Case 2 a (RelocateRefused a b n) (Relocates a b n) (relocate_on a b n)
  relocate_case = regrant_case NoRoom relocated _ _ (Relocates a b n) (λ e r pre s asked post is gap g. go pre s asked post e r is g)
    where
      go : {gap : Spot} (pre : List Chunk) (s asked : ℕ) (post : List Chunk) → sound a ≡ true → LawfulRequest (length a) n → BlockAt a b pre s asked post
          → Picks (chunks_of a) (need n) gap
          → Case 2 a (RelocateRefused a b n) (Relocates a b n)
          (settle 2 a (granted NoRoom (relocated b (need n) n (at pre (live s asked) post) (grant_from (need n) n gap) a)))
      go pre s asked post e r is (no_gap h) = refuses NoRoom (e, (r, (pre, s, asked, post, is), h))
      go pre s asked post e r is (a_gap before g after gap) = does (moves e r pre s asked post is before g after gap _ refl _ refl _ refl)

  pub realloc_case : Case 2 a (ReallocRefused a b n) (Regrants a b n) (realloc_on a b n)
  realloc_case = regrant_case NoRoom regranted _ _ (Regrants a b n)
      (λ e r pre s asked post is gap g. go pre s asked post e r is (stays_told a b (need n) n pre s asked post e is) g)
    where
      go : (pre : List Chunk) (s asked : ℕ) (post : List Chunk) {way : Way} {gap : Spot} → sound a ≡ true → LawfulRequest (length a) n
          → BlockAt a b pre s asked post
          → Stays a b (need n) n pre s post way → Picks (chunks_of a) (need n) gap
          → Case 2 a (ReallocRefused a b n) (Regrants a b n)
          (settle 2 a (granted NoRoom (or_else way (move b (s - header_words) (grant_from (need n) n gap) a))))
      go pre s asked post e r is (by_room keep k) g = does (in_place (resizes e r pre s asked post is keep k))
      go pre s asked post e r is (by_none l) (no_gap h) = refuses NoRoom (e, (r, (pre, s, asked, post, is, l), h))
      go pre s asked post e r is (by_none l) (a_gap before g after gap) =
          does (elsewhere (moves e r pre s asked post is before g after gap _ refl _ refl _ (sym (shorter_old (need n) s g l.own gap.1))))
