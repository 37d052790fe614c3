-- Bytes put into a text one after the other; numbers put so, each in its digits.
use Prim.Native.Nat.{ℕ, suc, zero, ◌+◌, ◌*◌, ◌/◌, ◌%◌, ◌≤◌, ◌<◌}
use mathlib.Core.Path.{◌≡◌, refl, sym, ap, ◌∙◌}
use mathlib.Core.List.{List, [], ◌∷◌, ◌++◌, append_assoc, append-nil}
use native.Mathlib.Omega.{arith}
use native.Mathlib.Nat.{suc-mul, mul-le-mul_right}
use native.Mathlib.Numerals.{add-one}
use lib.ListN.{length, get_or, take, drop, set, length-append}
use lib.Seq.{sets, sets-eq, length-sets, length-take-le, take-suc}
use Rattle.std.proofs.lemmas.List.{set_comm}
use Rattle.digits.specs.Digits.{line_end, glyph, digits_of, in_digits}
use Rattle.digits.specs.Putting.{Puts}

-- two runs of bytes are one
pub sets_append : (xs ys : List ℕ) (l : List ℕ) (i d : ℕ) → d ≡ i + length xs → sets l i (xs ++ ys) ≡ sets (sets l i xs) d ys
sets_append [] ys l i d e = ap (λ (k : ℕ). sets l k ys) (omega (arith, e))
sets_append (x ∷ xs) ys l i d e = sets_append xs ys _ (suc i) d (omega (arith, e))

-- bytes that are put behind others make one run with them
pub puts_then : (at mid end : ℕ) (xs ys room text after : List ℕ) → Puts at xs room mid text → Puts mid ys text end after
    → Puts at (xs ++ ys) room end after
puts_then at mid end xs ys room text after p q =
    record {
      ends = q.ends ∙ omega (arith, p.ends, length-append xs ys);
      says = q.says ∙ ap (λ (t : List ℕ). sets t mid ys) p.says ∙ sym (sets_append xs ys room at mid p.ends);
    }

-- three runs of bytes and the line's end
pub puts_line : (at mid next end : ℕ) (xs ys zs room one two three : List ℕ) → Puts at xs room mid one → Puts mid ys one next two
    → Puts next zs two end three → Puts at (xs ++ (ys ++ (zs ++ line_end ∷ []))) room (end + 1) (set three end line_end)
puts_line at mid next end xs ys zs room one two three first second third =
    puts_then at mid (end + 1) xs (ys ++ (zs ++ line_end ∷ [])) room one _ first
    (puts_then mid next (end + 1) ys (zs ++ line_end ∷ []) one two _ second
    (puts_then next end (end + 1) zs (line_end ∷ []) two three _ third (record { ends = refl; says = refl })))

-- bytes that are put at the start of a text are its front
pub put_front : {bs room text : List ℕ} {end : ℕ} → Puts 0 bs room end text → length bs ≤ length room
    → (end ≡ length bs) × (text ≡ bs ++ drop (length bs) room)
put_front {bs} {room} p h =
    let from : 0 + length bs ≡ length bs = omega arith in
    (p.ends ∙ from, p.says ∙ sets-eq bs room 0 (omega arith) ∙ ap (λ (k : ℕ). bs ++ drop k room) from)

-- a text stays as long as it was
pub put_length : {at end : ℕ} {bs room text : List ℕ} → Puts at bs room end text → length text ≡ length room
put_length {at} {end} {bs} {room} p = ap length p.says ∙ length-sets room at bs

-- ---- numbers in digits, so many bytes each

module _ (digits : ℕ → List ℕ) (width : ℕ) (each : (v : ℕ) → length (digits v) ≡ width) where
  pub in_length : (vs : List ℕ) → length (in_digits digits vs) ≡ length vs * width
  in_length [] = omega arith
  in_length (v ∷ vs) =
      length-append (digits v) (in_digits digits vs) ∙ omega (arith, each v, in_length vs, suc-mul (length vs) width)

in_append : (digits : ℕ → List ℕ) (vs ws : List ℕ) → in_digits digits (vs ++ ws) ≡ in_digits digits vs ++ in_digits digits ws
in_append digits [] ws = refl
in_append digits (v ∷ vs) ws =
    ap (λ (bs : List ℕ). digits v ++ bs) (in_append digits vs ws) ∙ sym (append_assoc (digits v) (in_digits digits vs) (in_digits digits ws))

-- one number more
pub in_next : (digits : ℕ → List ℕ) (vs : List ℕ) (i : ℕ) → i < length vs
    → in_digits digits (take (i + 1) vs) ≡ in_digits digits (take i vs) ++ digits (get_or vs i 0)
in_next digits vs i less =
    ap (in_digits digits) (rw add-one (take-suc vs i 0 less)) ∙ in_append digits (take i vs) (get_or vs i 0 ∷ [])
    ∙ ap (λ (bs : List ℕ). in_digits digits (take i vs) ++ bs) (append-nil (digits (get_or vs i 0)))

-- ---- a number in digits

pub digits_count : (count v : ℕ) → length (digits_of count v) ≡ count
unfolding digits_of
digits_count zero v = refl
digits_count (suc more) v = length-append (digits_of more (v / 16)) (glyph (v % 16) ∷ []) ∙ omega (arith, digits_count more (v / 16))

-- a byte behind others may be put before them
set_before : (bs l : List ℕ) (i j x : ℕ) → i + length bs ≤ j → sets (set l j x) i bs ≡ set (sets l i bs) j x
set_before [] l i j x h = refl
set_before (b ∷ bs) l i j x h =
    ap (λ (m : List ℕ). sets m (suc i) bs) (set_comm l j i x b (λ e. omega arith)) ∙ set_before bs (set l i b) (suc i) j x (omega arith)

-- a number's last digit, and then those before it
pub last_first : (more rest : ℕ) (l : List ℕ) (at : ℕ)
    → sets (set l (at + more) (glyph (rest % 16))) at (digits_of more (rest / 16)) ≡ sets l at (digits_of (suc more) rest)
unfolding digits_of
last_first more rest l at =
    let n = digits_count more (rest / 16) in
    set_before (digits_of more (rest / 16)) l at (at + more) (glyph (rest % 16)) (omega arith)
    ∙ sym (sets_append (digits_of more (rest / 16)) (glyph (rest % 16) ∷ []) l at (at + more) (omega arith))

-- behind the numbers that are put there is room for one more, where there is room for all of them
pub room_left : (digits i : ℕ) (vs : List ℕ) {at end : ℕ} {room text : List ℕ} → i < length vs
    → Puts at (in_digits (digits_of digits) (take i vs)) room end text → end + digits ≤ at + length vs * digits
room_left digits i vs less put =
    let front : length (in_digits (digits_of digits) (take i vs)) ≡ i * digits
    = in_length (digits_of digits) digits (digits_count digits) (take i vs) ∙ ap (λ (k : ℕ). k * digits) (length-take-le i vs (omega arith)) in
    omega (arith, put.ends, front, suc-mul i digits, mul-le-mul_right {m = suc i} {n = length vs} digits (omega arith))

-- where numbers that are put end, in a text that stays as long as it was
pub numbers_end : (digits : ℕ) (vs : List ℕ) {at end : ℕ} {room text : List ℕ} → Puts at (in_digits (digits_of digits) vs) room end text
    → (end ≡ at + length vs * digits) × (length text ≡ length room)
numbers_end digits vs put =
    (omega (arith, put.ends, in_length (digits_of digits) digits (digits_count digits) vs), put_length put)
