-- What a text says: `said` finds the words whose picture it is, and there are no others.
use Prim.Native.Nat.{ℕ, ◌<◌}
use mathlib.Core.Path.{◌≡◌, refl, sym, ap, ap₂, ◌∙◌}
use mathlib.Core.Logic.{◌↔◌}
use mathlib.Core.Bool.{Bool, true, false, cond, true≢false, and-eq-true_iff}
use mathlib.Core.List.{List, [], ◌∷◌, map}
use native.Mathlib.Omega.{arith}
use lib.ListN.{length, drop, length-map}
use lib.Dec.{eqb}
use borrow.Author.Tests.{eqb-true, eq-eqb}
use Rattle.layout.specs.Numbers.{word_values}
use Rattle.layout.specs.Bounds.{AllBelow}
use Rattle.digits.specs.Digits.{upper, four_digit_values}
use Rattle.rules.specs.Pictures.{frames_for, picture_of, line_length, picture_length, Says, Said, bad, good, standing_count, standing, same}
use Rattle.rules.specs.Pictures.{said}
use Rattle.rules.proofs.Pictures.{picture_length_lem, picture_capitals, picture_standing, standing_upper, frames_below, standing_count_lem}

-- ---- the test whether two texts are the same

pub same_true : (xs ys : List ℕ) → same xs ys ≡ true → xs ≡ ys
unfolding same
same_true [] [] e = refl
same_true [] (y ∷ ys) e = absurd (true≢false (sym e))
same_true (x ∷ xs) [] e = absurd (true≢false (sym e))
same_true (x ∷ xs) (y ∷ ys) e =
    let (first, rest) = (and-eq-true_iff (eqb x y) (same xs ys)).0 e in
    ap₂ ◌∷◌ (eqb-true x y first) (same_true xs ys rest)

pub same_itself : (xs : List ℕ) → same xs xs ≡ true
unfolding same
same_itself [] = refl
same_itself (x ∷ xs) = rw (eq-eqb x x refl, same_itself xs)

-- ---- the words that a text says

module _ (text : List ℕ) where
  -- words that it says are those at their places
  pub says_standing : (ws : List ℕ) → Says text ws → standing text ≡ ws
  says_standing ws s = sym (standing_upper text) ∙ ap standing s.is ∙ picture_standing ws s.counted s.fitting

  -- a text says at most one list of words
  pub says_once : (ws ws' : List ℕ) → Says text ws → Says text ws' → ws ≡ ws'
  says_once ws ws' s s' = sym (says_standing ws s) ∙ says_standing ws' s'

  -- and says those at their places, where it is their picture
  standing_says : map upper text ≡ picture_of (standing text) → Says text (standing text)
  standing_says e =
      let n = standing_count text in
      record {
        is = e;
        counted = omega (arith, standing_count_lem (frames_for n) n (drop (line_length 0) text) refl);
        fitting = frames_below (frames_for n) n (drop (line_length 0) text);
      }

  -- what `said` has to do with `Says`, case by case
  pub data Saying : Said → Type 0 where
    says : (ws : List ℕ) → Says text ws → Saying (good ws)
    nothing : ((ws : List ℕ) → Says text ws → ⊥) → Saying bad

  pub saying : Saying (said text)
  unfolding said
  saying = go (same (map upper text) (picture_of (standing text))) refl
    where
      go : (pictured : Bool) → same (map upper text) (picture_of (standing text)) ≡ pictured → Saying (cond pictured (good (standing text)) bad)
      go true e = says (standing text) (standing_says (same_true _ _ e))
      go false e =
          nothing (λ ws s.
          true≢false
          (sym (ap (λ (vs : List ℕ). same (map upper text) (picture_of vs)) (says_standing ws s)
          ∙ ap (λ (bs : List ℕ). same bs (picture_of ws)) s.is ∙ same_itself (picture_of ws)) ∙ e))

  -- a text of another length than the picture that its first line tells of is bad
  pub other_length_bad : (length text ≡ picture_length (standing_count text) → ⊥) → said text ≡ bad
  other_length_bad n = go (said text) saying
    where
      go : (found : Said) → Saying found → found ≡ bad
      go found (nothing none) = refl
      go found (says ws s) =
          let k = standing_count text in
          let long : length ws ≡ k = ap length (sym (says_standing ws s)) ∙ standing_count_lem (frames_for k) k (drop (line_length 0) text) refl in
          absurd (n (sym (length-map text upper) ∙ ap length s.is ∙ picture_length_lem ws ∙ ap picture_length long))

  pub said_says : (ws : List ℕ) → (said text ≡ good ws) ↔ Says text ws
  said_says ws = (λ e. go (said text) saying e, λ s. back (said text) saying s)
    where
      go : (found : Said) → Saying found → found ≡ good ws → Says text ws
      go found (says vs s) e = let q : vs ≡ ws = cc in rw (← q) s
      go found (nothing none) e = let z : ◌≡◌ {A = ℕ} 0 1 = cc in absurd (omega arith)

      back : (found : Said) → Saying found → Says text ws → found ≡ good ws
      back found (says vs s') s = ap good (says_once vs ws s' s)
      back found (nothing none) s = absurd (none ws s)

-- words that a picture can have are what their picture says
pub picture_says : (ws : List ℕ) → length ws < four_digit_values → AllBelow word_values ws → Says (picture_of ws) ws
picture_says ws counted fitting = record { is = picture_capitals ws; counted = counted; fitting = fitting }
