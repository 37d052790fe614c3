-- A line put part by part, words that are loaded one by one, and a line that is compared byte by byte.
use Prim.Native.Nat.{ℕ, suc, ◌+◌, ◌-◌, ◌%◌, ◌≤◌, ◌<◌}
use mathlib.Core.Path.{◌≡◌, refl, ap}
use mathlib.Core.Bool.{Bool, true, false, ◌&&◌}
use mathlib.Core.List.{List, [], ◌∷◌, ◌++◌, map}
use native.Mathlib.Omega.{arith}
use lib.ListN.{length, get_or, take, drop, drop_of_length-le}
use lib.Dec.{eqb}
use native.Mathlib.Numerals.{add-one}
use lib.Seq.{drop-cons, drop-drop, take-append_seam}
use Rattle.layout.specs.Numbers.{word_values}
use Rattle.digits.specs.Digits.{line_end, number_of, upper, eight_digits, digits_of, in_digits}
use Rattle.digits.specs.Putting.{Puts}
use Rattle.digits.proofs.Counts.{two_of, four_of, eight_of, in_same}
use Rattle.digits.proofs.Putting.{put_front}
use Rattle.rules.specs.Pictures.{line, line_length, words_in, same}
use Rattle.rules.proofs.Pictures.{line_length_lem}
use Rattle.frames.specs.Lines.{has_line}

-- a line's parts are the kind, the number, the words and the line's end
pub line_is : (kind number : ℕ) (ws : List ℕ)
    → digits_of 2 kind ++ (digits_of 4 number ++ (in_digits (digits_of 8) ws ++ line_end ∷ [])) ≡ line kind number ws
unfolding line
line_is kind number ws = rw (two_of, four_of, in_same (digits_of 8) eight_digits eight_of ws)

-- where a line that was put ends
pub line_ends : (kind number : ℕ) (words : List ℕ) {at end : ℕ} {room text : List ℕ} → Puts at (line kind number words) room end text
    → end ≡ at + line_length (length words)
line_ends kind number words p = omega (arith, p.ends, line_length_lem kind number words)

-- bytes that were put at the start of a text stand there
pub put_there : {bs room text : List ℕ} {end : ℕ} → Puts 0 bs room end text → length bs ≤ length room → take end text ≡ bs
put_there {bs} {room} p h =
    let (ended, whole) = put_front p h in
    rw (whole, ended) (take-append_seam bs (drop (length bs) room))

-- a line that was put at the start of a buffer, and the part of a text that is compared with it
pub line_found : (text buffer expected : List ℕ) (at count : ℕ) → count ≡ length expected → take count buffer ≡ expected
    → same (map upper (take (at + count - at) (drop at text))) (take count buffer) ≡ has_line expected (drop at text)
unfolding has_line
line_found text buffer expected at count e there =
    let n : at + count - at ≡ length expected = omega arith in
    rw (there, n)

-- ---- words that are loaded

-- the first eight of the bytes from `at` on make a word, if some are wanted
pub word_next : (text : List ℕ) (at next left more : ℕ) → next ≡ at + 8 → left ≡ suc more
    → words_in left (drop at text) ≡ (number_of (take 8 (drop at text)) % word_values ∷ []) ++ words_in more (drop next text)
unfolding words_in
word_next text at next left more n e = rw (e, n) (ap (λ (rest : List ℕ). number_of (take 8 (drop at text)) % word_values ∷ words_in more rest) (drop-drop 8 at text))

pub no_words_left : (left : ℕ) (text : List ℕ) → left ≡ 0 → words_in left text ≡ []
unfolding words_in
no_words_left left text e = rw e

-- ---- a line that is compared

-- two texts from byte `i` on: the first byte of each, and the rest
pub same_next : (part expected : List ℕ) (i : ℕ) (rest : Bool) → i < length part → i < length expected
    → (rest && same (map upper (drop i part)) (drop i expected))
    ≡ ((rest && eqb (upper (get_or part i 0)) (get_or expected i 0)) && same (map upper (drop (i + 1) part)) (drop (i + 1) expected))
unfolding same
same_next part expected i true h k = rw (drop-cons part i 0 h, drop-cons expected i 0 k, add-one)
same_next part expected i false h k = refl

pub same_ended : (part expected : List ℕ) (i : ℕ) → length part ≤ i → length expected ≤ i → same (map upper (drop i part)) (drop i expected) ≡ true
unfolding same
same_ended part expected i h k = rw (drop_of_length-le part h, drop_of_length-le expected k)
