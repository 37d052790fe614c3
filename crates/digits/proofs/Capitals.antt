-- A letter in upper case is worth what it is worth in lower case, and what is written is in upper case already.
use Prim.Native.Nat.{ℕ, zero, suc, ◌+◌, ◌-◌, ◌*◌, ◌/◌, ◌%◌, ◌<◌}
use mathlib.Core.Path.{◌≡◌, refl, sym, ap, ap₂, ◌∙◌}
use mathlib.Core.Logic.{⊎_elim}
use mathlib.Core.Bool.{Bool, true, false, cond}
use mathlib.Core.List.{List, [], ◌∷◌, ◌++◌, map}
use native.Mathlib.Omega.{arith}
use lib.ListN.{take, drop}
use Rattle.digits.specs.Digits.{between, worth, number_from, upper, glyph, two_digits, four_digits, eight_digits, in_digits}
use Rattle.digits.proofs.Ranges.{within, inside, below, above, worth_known}
use Rattle.digits.proofs.Reading.{glyph_upper}

-- a byte that is no small letter stays
stays : (b : ℕ) → between 97 102 b ≡ false → upper b ≡ b
unfolding upper
stays b e = rw e

pub worth_upper : (b : ℕ) → worth (upper b) ≡ worth b
unfolding upper
worth_upper b = go (between 97 102 b) refl
  where
    go : (letter : Bool) → between 97 102 b ≡ letter → worth (cond letter (b - 97 + 65) b) ≡ worth b
    go true e =
        let (least, most) = within 97 102 b e in
        worth_known (b - 97 + 65) false true _ (above 48 57 (b - 97 + 65) (omega arith)) (inside 65 70 (b - 97 + 65) (omega arith) (omega arith)) refl
        ∙ omega arith ∙ sym (worth_known b false false true (above 48 57 b (omega arith)) (above 65 70 b (omega arith)) e)
    go false e = refl

pub number_upper : (n : ℕ) (bs : List ℕ) → number_from n (map upper bs) ≡ number_from n bs
number_upper n [] = refl
number_upper n (b ∷ bs) = ap (λ (w : ℕ). number_from (n * 16 + w) (map upper bs)) (worth_upper b) ∙ number_upper (n * 16 + worth b) bs

-- ---- what is written

pub upper_glyph : (d : ℕ) → d < 16 → upper (glyph d) ≡ glyph d
upper_glyph d l =
    ⊎_elim (λ e. let (least, most) = within 48 57 (glyph d) e in stays (glyph d) (below 97 102 (glyph d) (omega arith)))
    (λ e. let (least, most) = within 65 70 (glyph d) e in stays (glyph d) (below 97 102 (glyph d) (omega arith))) (glyph_upper d l)

-- ---- bytes in a row

pub take_upper : (k : ℕ) (bs : List ℕ) → take k (map upper bs) ≡ map upper (take k bs)
take_upper zero bs = refl
take_upper (suc k) [] = refl
take_upper (suc k) (b ∷ bs) = ap (λ (l : List ℕ). upper b ∷ l) (take_upper k bs)

pub drop_upper : (k : ℕ) (bs : List ℕ) → drop k (map upper bs) ≡ map upper (drop k bs)
drop_upper zero bs = refl
drop_upper (suc k) [] = refl
drop_upper (suc k) (b ∷ bs) = drop_upper k bs

map_append : (xs ys : List ℕ) → map upper (xs ++ ys) ≡ map upper xs ++ map upper ys
map_append [] ys = refl
map_append (x ∷ xs) ys = ap (λ (l : List ℕ). upper x ∷ l) (map_append xs ys)

-- bytes that are in upper case
abbrev pub Capitals : List ℕ → Type 0
Capitals bs = map upper bs ≡ bs

pub capitals_append : (xs ys : List ℕ) → Capitals xs → Capitals ys → Capitals (xs ++ ys)
capitals_append xs ys p q = map_append xs ys ∙ ap₂ ◌++◌ p q

pub two_capitals : (v : ℕ) → Capitals (two_digits v)
two_capitals v = rw (upper_glyph (v / 16 % 16) (omega arith), upper_glyph (v % 16) (omega arith))

pub four_capitals : (v : ℕ) → Capitals (four_digits v)
four_capitals v = capitals_append (two_digits (v / 256)) (two_digits v) (two_capitals (v / 256)) (two_capitals v)

pub eight_capitals : (v : ℕ) → Capitals (eight_digits v)
eight_capitals v = capitals_append (four_digits (v / 65536)) (four_digits v) (four_capitals (v / 65536)) (four_capitals v)

pub in_capitals : (digits : ℕ → List ℕ) → ((v : ℕ) → Capitals (digits v)) → (vs : List ℕ) → Capitals (in_digits digits vs)
in_capitals digits each [] = refl
in_capitals digits each (v ∷ vs) = capitals_append (digits v) (in_digits digits vs) (each v) (in_capitals digits each vs)
