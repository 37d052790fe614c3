-- The place in a line tells all of it that matters.
use Prim.Native.Nat.{ℕ, ◌+◌, ◌*◌, ◌/◌, ◌%◌, ◌≤◌, ◌<◌}
use mathlib.Core.Path.{◌≡◌, refl, ap, ◌∙◌}
use mathlib.Core.Logic.{◌↔◌}
use mathlib.Core.Bool.{Bool, true, false, cond, ◌&&◌, and-false}
use mathlib.Core.List.{List, [], ◌∷◌, ◌++◌, cons≢nil}
use native.Mathlib.Omega.{arith}
use lib.Dec.{leb, ltb, eqb}
use lib.ListN.{length, take, drop, length-drop, drop_of_length-le}
use lib.Seq.{length-take-le, drop-drop}
use borrow.Author.Tests.{ltb-true, ltb-false, le-leb, lt-leb, eqb-true}
use Rattle.digits.specs.Digits.{worth, is_digit, all_digits, number_from, number_of, four_digit_values}
use Rattle.digits.proofs.DigitRuns.{digits_cut, raised, number_raised, number_below, number_cut}
use Rattle.requests.specs.Requests.{field, request_of}
use Rattle.requests.specs.LinePlaces.{most_digits, at_start, spoilt, nine_digit_values, onward, request_at}
use Rattle.requests.specs.declared.Place.{Place}
use Rattle.requests.specs.declared.Request.TheVariants.{Malformed}

-- the place after bytes of a line, from another place in it
abbrev pub line_place_from : Place → List ℕ → Place
line_place_from place [] = place
line_place_from place (b ∷ bs) = line_place_from (onward place b) bs

-- the place after the bytes of a line
abbrev pub line_place : List ℕ → Place
line_place line = line_place_from at_start line

-- one more byte of a line
pub place_append : (place : Place) (line : List ℕ) (b : ℕ) → line_place_from place (line ++ b ∷ []) ≡ onward (line_place_from place line) b
place_append place [] b = refl
place_append place (c ∷ line) b = place_append (onward place c) line b

-- any byte leads past the start of a line
pub onward_begun : (place : Place) (b : ℕ) → 0 < (onward place b).digits
unfolding onward
onward_begun place b = go (is_digit b && ltb place.digits most_digits) refl
  where
    go : (counts : Bool) → (is_digit b && ltb place.digits most_digits) ≡ counts → 0 < (onward place b).digits
    go true e = rw e (omega arith)
    go false e = rw e (omega arith)

-- a line with a byte in it is past its start
pub place_begun : (place : Place) (b : ℕ) (bs : List ℕ) → 0 < (line_place_from place (b ∷ bs)).digits
place_begun place b [] = onward_begun place b
place_begun place b (c ∷ bs) = place_begun (onward place b) c bs

-- the place tells whether a line is empty
pub empty_known : (line : List ℕ) → ((line_place line).digits ≡ 0) ↔ (line ≡ [])
empty_known [] = (λ none. refl, λ none. refl)
empty_known (b ∷ bs) = (λ none. let z : ⊥ = omega (arith, place_begun at_start b bs) in absurd z, λ none. absurd (cons≢nil none))

-- ---- the digits of a line are counted

-- what ten digits make is below this number
abbrev ten_digit_values : ℕ
ten_digit_values = nine_digit_values * 16

-- the place after so many digits, which keeps what the last ten of them make
abbrev counted : ℕ → ℕ → Place
counted digits number = record { digits = digits; number = number % ten_digit_values }

-- the place that a line of so many bytes reaches behind digits that make `number`
abbrev reached : ℕ → List ℕ → ℕ → Place
reached number line bytes = cond (all_digits line && leb bytes most_digits) (counted bytes (number_from number line)) spoilt

-- a spoilt line stays spoilt
spoilt_stays : (line : List ℕ) → line_place_from spoilt line ≡ spoilt
unfolding onward
spoilt_stays [] = refl
spoilt_stays (b ∷ bs) = rw and-false (spoilt_stays bs)

-- the digits of a line are counted, up to ten; a line that has more, or any other byte, is spoilt
place_known : (digits number : ℕ) (line : List ℕ) (bytes : ℕ) → bytes ≡ digits + length line → digits ≤ most_digits
    → line_place_from (counted digits number) line ≡ reached number line bytes
unfolding onward
place_known digits number [] bytes e few = let same : bytes ≡ digits = omega arith in rw (same, le-leb digits most_digits few)
place_known digits number (b ∷ bs) bytes e few =
    go (is_digit b) refl (ltb digits most_digits) refl (place_known (digits + 1) (number * 16 + worth b) bs bytes (omega arith))
  where
    go : (digit : Bool) → is_digit b ≡ digit → (room : Bool) → ltb digits most_digits ≡ room
        → (digits + 1 ≤ most_digits → line_place_from (counted (digits + 1) (number * 16 + worth b)) bs ≡ reached (number * 16 + worth b) bs bytes)
        → line_place_from (counted digits number) (b ∷ bs) ≡ reached number (b ∷ bs) bytes
    go false p room q rest = rw p (spoilt_stays bs)
    go true p false q rest =
        let more : most_digits < bytes = omega (arith, ltb-false digits most_digits q) in
        rw (p, q, lt-leb bytes most_digits more, and-false) (spoilt_stays bs)
    go true p true q rest =
        let sum : number % ten_digit_values % nine_digit_values * 16 + worth b ≡ (number * 16 + worth b) % ten_digit_values
        = omega (arith, ltb-true (worth b) 16 p) in
        rw (p, q, sum) (rest (omega (arith, ltb-true digits most_digits q)))

-- ---- the fields of a line

-- a field, four digits at `i`, behind digits that make `n`: what they make together, and how both are told from that
record FieldAt (n i : ℕ) (line : List ℕ) : Type 0 where
  joins : number_from n (drop i line) ≡ number_from (n * four_digit_values + number_of (take 4 (drop i line))) (drop (i + 4) line)
  front : (n * four_digit_values + number_of (take 4 (drop i line))) / four_digit_values ≡ n
  last : (n * four_digit_values + number_of (take 4 (drop i line))) % four_digit_values ≡ number_of (take 4 (drop i line))

field_at : (n i : ℕ) (line : List ℕ) → all_digits line ≡ true → i + 4 ≤ length line → FieldAt n i line
field_at n i line digits fits =
    let part = take 4 (drop i line) in
    let long : length part ≡ 4 = length-take-le 4 (drop i line) (simp length-drop (omega arith)) in
    let sum : number_from n part ≡ n * four_digit_values + number_of part = omega (arith, rw long at (number_raised n 0 n part (omega arith))) in
    let are_digits : all_digits part ≡ true = (digits_cut 4 (drop i line) (digits_cut i line digits).1).0 in
    let below : number_of part < four_digit_values = rw long at (number_below 0 1 part are_digits (omega arith)) in
    record { joins = rw (← sum, ← drop-drop) (number_cut n 4 (drop i line)); front = omega arith; last = omega arith }

-- ---- the request

-- a line of digits is told by how many they are and what they make
digits_known : (line : List ℕ) → all_digits line ≡ true → request_at (reached 0 line (length line)) ≡ request_of line
unfolding request_at request_of
digits_known line digits = go (eqb (length line) 6) refl (eqb (length line) 10) refl (eqb (length line) 2) refl
  where
    kind : ℕ
    kind = number_of (take 2 line)

    -- digits that are read to their end tell the number
    told : {n m : ℕ} → length line ≡ n → raised 1 n ≤ ten_digit_values → number_from kind (drop 2 line) ≡ number_from m (drop n line)
        → number_of line % ten_digit_values ≡ m
    told {n} {m} long few joins =
        let whole : number_from kind (drop 2 line) ≡ m = rw (drop_of_length-le line {i = n} (omega arith)) at joins in
        omega (arith, number_cut 0 2 line, rw long at (number_below 0 1 line digits (omega arith)))

    go : (six : Bool) → eqb (length line) 6 ≡ six → (ten : Bool) → eqb (length line) 10 ≡ ten → (two : Bool) → eqb (length line) 2 ≡ two
        → request_at (reached 0 line (length line)) ≡ request_of line
    go true p ten q two r =
        let long = eqb-true (length line) 6 p in
        let first = field_at kind 2 line digits (omega arith) in
        let same : number_of line % ten_digit_values ≡ kind * four_digit_values + field line 0 = told long (omega arith) first.joins in
        rw (digits, long, same, first.front, first.last)
    go false p true q two r =
        let long = eqb-true (length line) 10 q in
        let first = field_at kind 2 line digits (omega arith) in
        let second = field_at (kind * four_digit_values + field line 0) 6 line digits (omega arith) in
        let same : number_of line % ten_digit_values ≡ (kind * four_digit_values + field line 0) * four_digit_values + field line 1
        = told long (omega arith) (first.joins ∙ second.joins) in
        rw (digits, long, same, second.front, second.last, first.front, first.last)
    go false p false q true r =
        let long = eqb-true (length line) 2 r in
        let same : number_of line % ten_digit_values ≡ kind = told long (omega arith) refl in
        rw (digits, long, same)
    go false p false q false r = rw (digits, p, q, r) (lost (leb (length line) most_digits))
      where
        lost : (few : Bool) → request_at (cond few (counted (length line) (number_of line)) spoilt) ≡ Malformed
        lost true = rw (p, q, r)
        lost false = refl

-- the request of a line is known from its place alone
pub request_known : (line : List ℕ) → request_at (line_place line) ≡ request_of line
unfolding request_at request_of
request_known line = ap request_at (place_known 0 0 line (length line) (omega arith) (omega arith)) ∙ go (all_digits line) refl
  where
    go : (digits : Bool) → all_digits line ≡ digits → request_at (reached 0 line (length line)) ≡ request_of line
    go true e = digits_known line e
    go false e = rw e
