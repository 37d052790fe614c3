-- To have followed a way of the rules.
use mathlib.Core.Path.{◌≡◌, refl, ◌∙◌}
use mathlib.Core.List.{List}
use Prim.Native.Nat.{ℕ}
use native.Mathlib.Omega.{arith}
use Rattle.std.specs.Prelude.{Option, None}
use Rattle.rules.specs.Rules.{Way, shut, grants, regranted, resized, relocated}
use Rattle.rules.proofs.ThreeWays.{else_moves}
use Rattle.passes.specs.Places.{LiveAt}
use Rattle.ways.specs.Ways.{Follows, FollowsAt}
use Rattle.answers.specs.declared.Grant.{Grant}

-- what follows a way still does, said otherwise
pub follows_as : {way : Way} {a : List ℕ} {answer answer' : Option Grant} {after after' : List ℕ} → answer' ≡ answer → after' ≡ after
    → Follows way a answer after → Follows way a answer' after'
follows_as e q f = record { answers = e ∙ f.answers; leaves = q ∙ f.leaves }

-- whoever answers that it is shut followed a way that is, and left the words as they were
pub shut_followed : {way : Way} {a after : List ℕ} → Follows way a None after → (way ≡ shut) × (after ≡ a)
shut_followed {way} {a} {after} f = go way f
  where
    go : (way : Way) → Follows way a None after → (way ≡ shut) × (after ≡ a)
    go shut f = (refl, f.leaves)
    go (grants block granted words) f = absurd (let e = f.answers in let z : ◌≡◌ {A = ℕ} 0 1 = cc in omega arith)

module _ {a : List ℕ} {link chunk : ℕ} (need w : ℕ) where
  -- it cannot stay, and so nothing has changed
  pub cannot_stay : {kept : List ℕ} → LiveAt a link chunk → FollowsAt resized a link chunk need w None kept → kept ≡ a
  cannot_stay (pre, s, asked, post, st) f = (shut_followed (f pre s asked post st)).1

  -- and it moves
  pub regrants_elsewhere : {kept : List ℕ} {answer : Option Grant} {after : List ℕ} → LiveAt a link chunk → FollowsAt resized a link chunk need w None kept
      → FollowsAt relocated kept link chunk need w answer after
      → FollowsAt regranted a link chunk need w answer after
  regrants_elsewhere {kept} {answer} {after} live f g pre s asked post st =
      let moved = rw (cannot_stay live f) at g in
      rw (else_moves a _ need w pre s asked post st.is_sound st.stands (shut_followed (f pre s asked post st)).0) (moved pre s asked post st)
