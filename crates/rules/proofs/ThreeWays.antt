-- Realloc, document 01's three ways, is the resize and, if that is refused with WouldMove, the move.
use mathlib.Core.Path.{◌≡◌, refl}
use mathlib.Core.Bool.{true, cond}
use mathlib.Core.List.{List}
use Prim.Native.Nat.{ℕ, ◌-◌, min}
use native.Mathlib.Omega.{arith}
use lib.Dec.{eqb}
use borrow.Author.Tests.{ne_eqb}
use Rattle.layout.specs.Numbers.{header_words, need}
use Rattle.layout.specs.Chunks.{Chunk, live}
use Rattle.layout.specs.Walk.{sound, chunks_of}
use Rattle.layout.specs.Reasons.{number}
use Rattle.layout.specs.declared.Reason.{Reason}
use Rattle.layout.specs.declared.Reason.TheVariants.{NoRoom, WouldMove}
use Rattle.rules.specs.Answers.{Outcome, settle}
use Rattle.rules.specs.Spots.{Spot, at}
use Rattle.rules.specs.Fits.{first_fit_policy}
use Rattle.rules.specs.Picks.{Picks, no_gap, a_gap}
use Rattle.rules.specs.Rules.{Way, shut, grants, or_else, grant_from, move, granted_in, Regrant, regranted, resized, relocated}
use Rattle.rules.specs.Calls.{granted, relocate_on, resize_else_relocate, realloc_on}
use Rattle.rules.proofs.Fits.{first_fitting}
use Rattle.rules.proofs.Searches.{BlockAt}
use Rattle.rules.proofs.Remainder.{shorter_old}
use Rattle.rules.proofs.RegrantCases.{Stays, by_room, by_none, stays_told, Regrantings, all_refused, at_block, regrantings}

-- where the block cannot stay, the three ways come to the move by itself: all its words are as many as both blocks have
pub else_moves : (a : List ℕ) (b need w : ℕ) (pre : List Chunk) (s asked : ℕ) (post : List Chunk) → sound a ≡ true → BlockAt a b pre s asked post
    → let spot = at pre (live s asked) post in let new = grant_from need w (first_fit_policy need (chunks_of a)) in
    resized b need w spot new a ≡ shut → regranted b need w spot new a ≡ relocated b need w spot new a
else_moves a b need w pre s asked post e is q = rw q (go (stays_told a b need w pre s asked post e is) q (first_fitting need (chunks_of a)))
  where
    go : {way : Way} {gap : Spot} → Stays a b need w pre s post way → way ≡ shut → Picks (chunks_of a) need gap
        → let new = grant_from need w gap in move b (s - header_words) new a ≡ move b (min (s - header_words) (granted_in new)) new a
    go (by_room keep k) h f = absurd (let z : ◌≡◌ {A = ℕ} 0 1 = cc in omega arith)
    go (by_none l) h (no_gap g) = refl
    go (by_none l) h (a_gap before g after gap) = rw (shorter_old need s g l.own gap.1)

pub three_ways : (a : List ℕ) (b n : ℕ) → resize_else_relocate a b n ≡ realloc_on a b n
three_ways a b n = go (regrantings a b n ⊥ ⊥) refl
  where
    go : {call : Reason → Regrant → Outcome} → Regrantings a b n ⊥ ⊥ call → relocate_on a b n ≡ call NoRoom relocated
        → cond (eqb (call WouldMove resized).answer.code (number WouldMove)) (relocate_on (call WouldMove resized).words b n)
        (call WouldMove resized) ≡ call NoRoom regranted
    go (all_refused why low so) second = rw (ne_eqb (number why) (number WouldMove) (omega arith))
    go (at_block e r pre s asked post is) second = ways _ _ _ (else_moves a b (need n) n pre s asked post e is) second
      where
        ways : (stays moves alone : Way) → (stays ≡ shut → or_else stays moves ≡ alone) → relocate_on a b n ≡ settle 2 a (granted NoRoom alone)
            → let resize = settle 2 a (granted WouldMove stays) in
            cond (eqb resize.answer.code (number WouldMove)) (relocate_on resize.words b n) resize
            ≡ settle 2 a (granted NoRoom (or_else stays moves))
        ways shut moves alone f m = rw (f refl) m
        ways (grants block words after) moves alone f m = refl
