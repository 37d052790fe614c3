-- A resize keeps the block's number, and a move never does.
use mathlib.Core.Path.{◌≡◌, refl, sym, ◌∙◌}
use mathlib.Core.Logic.{◌≢◌, ⊎_elim}
use mathlib.Core.List.{List}
use Prim.Native.Nat.{ℕ}
use native.Mathlib.Omega.{arith}
use Rattle.layout.specs.Numbers.{need}
use Rattle.layout.proofs.Reasons.{number_positive}
use Rattle.rules.specs.Answers.{Outcome, block_field}
use Rattle.rules.specs.Calls.{resize_on, relocate_on}
use Rattle.rules.specs.Causes.{ResizeRefused}
use Rattle.rules.proofs.CallCases.{Case, refuses, does, done_does}
use Rattle.rules.proofs.Searches.{block_sizes}
use Rattle.rules.proofs.Remainder.{cut_numbers}
use Rattle.rules.proofs.OldBlock.{order, old_apart}
use Rattle.rules.proofs.RegrantCases.{Resizes, resizes, Relocates, moves, resize_case, relocate_case}

-- a resize that is done answers the number that it was given
pub resize_stays : (a : List ℕ) (b n : ℕ) → (resize_on a b n).answer.code ≡ 0 → block_field (resize_on a b n).answer.values ≡ b
resize_stays a b n = go (resize_case a b n)
  where
    go : {outcome : Outcome} → Case 2 a (ResizeRefused a b n) (Resizes a b n) outcome → outcome.answer.code ≡ 0
        → block_field outcome.answer.values ≡ b
    go (refuses why r) code = absurd (omega (arith, number_positive why))
    go (does (resizes e r pre s asked post is keep k)) code = refl

-- a move that is done answers another number than it was given
pub relocated_elsewhere : (a : List ℕ) (b n : ℕ) (values after : List ℕ) → Relocates a b n values after → block_field values ≢ b
relocated_elsewhere a b n values words (moves e r pre s asked post is before g after (same, enough) block at_is ks _ count shorter) q =
    let z = (block_sizes a b pre s asked post e is).1 in
    let c = cut_numbers (need n) g enough in
    ⊎_elim (λ (above : _). omega (arith, above, z, at_is, is.number_is)) (λ (below : _). omega (arith, below, c.enough, at_is, is.number_is))
    (old_apart (need n) n pre s asked post before g after (order pre s asked post before g after (sym is.same ∙ same)))

pub relocate_moves : (a : List ℕ) (b n : ℕ) → (relocate_on a b n).answer.code ≡ 0 → block_field (relocate_on a b n).answer.values ≢ b
relocate_moves a b n code = relocated_elsewhere a b n _ _ (done_does (relocate_case a b n) code)
