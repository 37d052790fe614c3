-- How long a picture is, that it is in upper case, and that its words stand at their places.
use Prim.Native.Nat.{ℕ, zero, suc, ◌+◌, ◌-◌, ◌*◌, ◌%◌, ◌<◌, min}
use mathlib.Core.Path.{◌≡◌, refl, sym, ap, ap₂, ◌∙◌}
use mathlib.Core.List.{List, [], ◌∷◌, ◌++◌, map, append_assoc}
use native.Mathlib.Omega.{arith}
use lib.ListN.{length, take, drop, length-append, length-take, length-drop, take-append-drop}
use lib.Seq.{drop_at}
use Rattle.layout.specs.Numbers.{word_values}
use Rattle.layout.specs.Bounds.{AllBelow}
use Rattle.digits.specs.Digits.{line_end, number_of, upper, four_digit_values, two_digits, four_digits, eight_digits, in_digits}
use Rattle.digits.proofs.Reading.{four_read, eight_read}
use Rattle.digits.proofs.Putting.{in_length}
use Rattle.digits.proofs.Capitals.{Capitals, capitals_append, two_capitals, four_capitals, eight_capitals, in_capitals}
use Rattle.digits.proofs.Capitals.{number_upper, take_upper, drop_upper}
use Rattle.rules.specs.Pictures.{frame_words, line, size_line, frame, frames_from, frames_for, picture_of, picture_length, words_in, line_head, line_length}
use Rattle.rules.specs.Pictures.{standing_from, standing_count, standing}

-- ---- how long it is

pub words_length : (ws : List ℕ) → length (in_digits eight_digits ws) ≡ length ws * 8
words_length = in_length eight_digits 8 (λ v. refl)

pub line_length_lem : (kind number : ℕ) (ws : List ℕ) → length (line kind number ws) ≡ line_length (length ws)
unfolding line
line_length_lem kind number ws = omega (arith, length-append (in_digits eight_digits ws) (line_end ∷ []), words_length ws)

-- behind a frame stand as many frames as the words that are left take
frames_left : (n more : ℕ) → suc more ≡ frames_for n → more ≡ frames_for (n - frame_words)
frames_left n more e = omega arith

pub frames_length : (more at : ℕ) (ws : List ℕ) → more ≡ frames_for (length ws) → length (frames_from more at ws) ≡ length ws * 8 + more * 7
unfolding frames_from
frames_length zero at ws e = omega arith
frames_length (suc more) at ws e =
    let front = take frame_words ws in
    let behind = drop frame_words ws in
    let long = length-take frame_words ws in
    let left = length-drop frame_words ws in
    let rest = frames_length more (at + frame_words) behind (frames_left (length ws) more e ∙ ap frames_for (sym left)) in
    let whole : length (frames_from (suc more) at ws) ≡ length (frame at front) + length (frames_from more (at + frame_words) behind) =
    length-append (frame at front) (frames_from more (at + frame_words) behind) in
    omega (arith, whole, line_length_lem 7 at front)

pub picture_length_lem : (ws : List ℕ) → length (picture_of ws) ≡ picture_length (length ws)
unfolding line picture_of
picture_length_lem ws = omega (arith, frames_length (frames_for (length ws)) 0 ws refl)

-- ---- it is in upper case

line_capitals : (kind number : ℕ) (ws : List ℕ) → Capitals (line kind number ws)
unfolding upper line
line_capitals kind number ws =
    let bs = in_digits eight_digits ws in
    capitals_append (two_digits kind) (four_digits number ++ (bs ++ line_end ∷ [])) (two_capitals kind)
    (capitals_append (four_digits number) (bs ++ line_end ∷ []) (four_capitals number)
    (capitals_append bs (line_end ∷ []) (in_capitals eight_digits eight_capitals ws) refl))

frames_capitals : (more at : ℕ) (ws : List ℕ) → Capitals (frames_from more at ws)
unfolding frames_from
frames_capitals zero at ws = refl
frames_capitals (suc more) at ws =
    let front = take frame_words ws in
    capitals_append (frame at front) (frames_from more (at + frame_words) (drop frame_words ws))
    (line_capitals 7 at front) (frames_capitals more (at + frame_words) (drop frame_words ws))

pub picture_capitals : (ws : List ℕ) → Capitals (picture_of ws)
unfolding picture_of
picture_capitals ws =
    capitals_append (size_line (length ws)) (frames_from (frames_for (length ws)) 0 ws) (line_capitals 6 (length ws) [])
    (frames_capitals (frames_for (length ws)) 0 ws)

-- ---- the words at their places

pub words_read : (ws rest : List ℕ) (count : ℕ) → count ≡ length ws → AllBelow word_values ws
    → words_in count (in_digits eight_digits ws ++ rest) ≡ ws
unfolding words_in
words_read [] rest zero e fits = refl
words_read [] rest (suc count) e fits = absurd (omega arith)
words_read (w ∷ ws) rest zero e fits = absurd (omega arith)
words_read (w ∷ ws) rest (suc count) e fits =
    ap₂ ◌∷◌ (ap (λ (n : ℕ). n % word_values) (eight_read w fits.0) ∙ omega (arith, fits.0))
    (words_read ws rest count (omega arith) fits.1)

below_cut : (k : ℕ) (ws : List ℕ) → AllBelow word_values ws → AllBelow word_values (take k ws) × AllBelow word_values (drop k ws)
below_cut zero ws fits = (tt, fits)
below_cut (suc k) [] fits = (tt, tt)
below_cut (suc k) (w ∷ ws) fits = let (front, back) = below_cut k ws fits.1 in ((fits.0, front), back)

frames_standing : (more at left : ℕ) (ws : List ℕ) → left ≡ length ws → more ≡ frames_for left → AllBelow word_values ws
    → standing_from more left (frames_from more at ws) ≡ ws
unfolding line frames_from standing_from
frames_standing zero at left [] e m fits = refl
frames_standing zero at left (w ∷ ws) e m fits = absurd (omega arith)
frames_standing (suc more) at left ws e m fits =
    let front = take frame_words ws in
    let behind = drop frame_words ws in
    let rest = frames_from more (at + frame_words) behind in
    let long : min frame_words left ≡ length front = omega (arith, length-take frame_words ws) in
    let (low, high) = below_cut frame_words ws fits in
    ap₂ ◌++◌ (ap (words_in (min frame_words left)) (append_assoc (in_digits eight_digits front) (line_end ∷ []) rest)
    ∙ words_read front (line_end ∷ rest) (min frame_words left) long low)
    (ap (standing_from more (left - frame_words)) (drop_at (frame at front) rest (line_length (min frame_words left)) (omega (arith, line_length_lem 7 at front)))
    ∙ frames_standing more (at + frame_words) (left - frame_words) behind (omega (arith, length-drop frame_words ws)) (frames_left left more m) high)
    ∙ take-append-drop frame_words ws

pub picture_standing : (ws : List ℕ) → length ws < four_digit_values → AllBelow word_values ws → standing (picture_of ws) ≡ ws
unfolding line picture_of
picture_standing ws counted fits =
    let n : number_of (four_digits (length ws)) % four_digit_values ≡ length ws
    = ap (λ (k : ℕ). k % four_digit_values) (four_read (length ws) counted) ∙ omega arith in
    ap (λ (k : ℕ). standing_from (frames_for k) k (frames_from (frames_for (length ws)) 0 ws)) n
    ∙ frames_standing (frames_for (length ws)) 0 (length ws) ws refl refl fits

-- ---- whatever the case of the letters

words_upper : (count : ℕ) (text : List ℕ) → words_in count (map upper text) ≡ words_in count text
unfolding words_in
words_upper zero text = refl
words_upper (suc count) text =
    ap₂ ◌∷◌ (ap (λ (n : ℕ). n % word_values) (ap number_of (take_upper 8 text) ∙ number_upper 0 (take 8 text)))
    (ap (words_in count) (drop_upper 8 text) ∙ words_upper count (drop 8 text))

frames_upper : (more left : ℕ) (text : List ℕ) → standing_from more left (map upper text) ≡ standing_from more left text
unfolding standing_from
frames_upper zero left text = refl
frames_upper (suc more) left text =
    let count = min frame_words left in
    ap₂ ◌++◌ (ap (words_in count) (drop_upper line_head text) ∙ words_upper count (drop line_head text))
    (ap (standing_from more (left - frame_words)) (drop_upper (line_length count) text)
    ∙ frames_upper more (left - frame_words) (drop (line_length count) text))

pub standing_upper : (text : List ℕ) → standing (map upper text) ≡ standing text
standing_upper text =
    let n : standing_count (map upper text) ≡ standing_count text
    = ap (λ (k : ℕ). k % four_digit_values)
    (ap (λ (bs : List ℕ). number_of (take 4 bs)) (drop_upper 2 text) ∙ ap number_of (take_upper 4 (drop 2 text)) ∙ number_upper 0 (take 4 (drop 2 text))) in
    ap (λ (k : ℕ). standing_from (frames_for k) k (drop (line_length 0) (map upper text))) n
    ∙ ap (standing_from (frames_for (standing_count text)) (standing_count text)) (drop_upper (line_length 0) text)
    ∙ frames_upper (frames_for (standing_count text)) (standing_count text) (drop (line_length 0) text)

-- ---- they are words that a picture can have

words_below : (count : ℕ) (text rest : List ℕ) → AllBelow word_values rest → AllBelow word_values (words_in count text ++ rest)
unfolding words_in
words_below zero text rest fits = fits
words_below (suc count) text rest fits = (omega arith, words_below count (drop 8 text) rest fits)

pub frames_below : (more left : ℕ) (text : List ℕ) → AllBelow word_values (standing_from more left text)
unfolding standing_from
frames_below zero left text = tt
frames_below (suc more) left text =
    words_below (min frame_words left) (drop line_head text) _ (frames_below more (left - frame_words) (drop (line_length (min frame_words left)) text))

pub words_count : (count : ℕ) (text : List ℕ) → length (words_in count text) ≡ count
unfolding words_in
words_count zero text = refl
words_count (suc count) text = ap suc (words_count count (drop 8 text))

pub standing_count_lem : (more left : ℕ) (text : List ℕ) → more ≡ frames_for left → length (standing_from more left text) ≡ left
unfolding standing_from
standing_count_lem zero left text m = omega arith
standing_count_lem (suc more) left text m =
    let count = min frame_words left in
    length-append (words_in count (drop line_head text)) (standing_from more (left - frame_words) (drop (line_length count) text))
    ∙ omega (arith, words_count count (drop line_head text), standing_count_lem more (left - frame_words) (drop (line_length count) text) (frames_left left more m))
