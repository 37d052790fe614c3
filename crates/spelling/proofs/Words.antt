-- Words and bytes: what stands in front of the next ones, and that one undoes the other.
use Prim.Native.Nat.{ℕ, zero, suc, ◌+◌, ◌*◌, ◌/◌, ◌%◌, ◌<◌, ◌≤◌}
use mathlib.Core.Path.{◌≡◌, refl, ◌∙◌, ap, ap₂}
use mathlib.Core.List.{List, [], ◌∷◌, ◌++◌}
use native.Mathlib.Nat.{div-div-eq-div-mul}
use native.Mathlib.Omega.{arith}
use native.Mathlib.Numerals.{add-one, towards_suc, unary_clauses}
use lib.ListN.{length, get_or, take, drop, drop_of_length-le}
use lib.Seq.{drop-cons, drop-drop}
use Rattle.std.specs.Int.{w32, from_le_bytes}
use Rattle.std.specs.Simd.{first_chunks}
use Rattle.layout.specs.Bounds.{AllBelow}
use Rattle.layout.specs.Numbers.{word_values}
use Rattle.spelling.specs.Words.{word_of, four_of, words_of, bytes_of}

-- chunk `i` of a list: its elements from `n * i` on
chunk_at : (n k i : ℕ) (xs : List ℕ) → i < k → get_or (first_chunks n k xs) i [] ≡ take n (drop (n * i) xs)
chunk_at n zero i xs h = absurd (omega arith)
chunk_at n (suc k) zero xs h = simp unary_clauses refl
chunk_at n (suc k) (suc i) xs h =
    let at : n + n * i ≡ n * suc i = omega arith in
    chunk_at n k i (drop n xs) (omega arith) ∙ ap (take n) (drop-drop (n * i) n xs ∙ ap (λ (m : ℕ). drop m xs) at)

-- the first four of the bytes from `at` on spell a word
words_front : (bs : List ℕ) (at : ℕ) → at + 3 < length bs
    → words_of (drop at bs) ≡ (from_le_bytes w32 (take 4 (drop at bs)) ∷ []) ++ words_of (drop (at + 4) bs)
unfolding words_of
words_front bs at h =
    rw (
      drop-cons bs at 0 (omega arith),
      drop-cons bs (suc at) 0 (omega arith),
      drop-cons bs (suc (suc at)) 0 (omega arith),
      drop-cons bs
          (suc (suc (suc at))) 0 (omega arith),
    )
    (simp towards_suc (ap₂ ◌∷◌ (omega arith) refl))

-- the word `w` that chunk `i` of the bytes spells comes before those of the bytes behind it
pub words_next : (bs : List ℕ) (fours : List (List ℕ)) (i next w : ℕ) → fours ≡ first_chunks 4 (length bs / 4) bs
    → w ≡ from_le_bytes w32 (get_or fours i []) → i < length bs / 4 → next ≡ 4 * i + 4
    → words_of (drop (4 * i) bs) ≡ (w ∷ []) ++ words_of (drop next bs)
words_next bs fours i next w f e h n = rw (n, e, f, chunk_at 4 (length bs / 4) i bs h) (words_front bs (4 * i) (omega arith))

-- the first of the words from `i` on is spelled by four bytes
pub bytes_next : (ws : List ℕ) (i : ℕ) → i < length ws → bytes_of (drop i ws) ≡ four_of (get_or ws i 0) ++ bytes_of (drop (i + 1) ws)
unfolding bytes_of
bytes_next ws i h = rw (drop-cons ws i 0 h, add-one)

-- no bytes spell no words
pub no_words : (bs : List ℕ) (at : ℕ) → length bs ≤ at → words_of (drop at bs) ≡ []
unfolding words_of
no_words bs at h = rw (drop_of_length-le bs h)

-- and no words have no bytes
pub no_bytes : (ws : List ℕ) (i : ℕ) → length ws ≤ i → bytes_of (drop i ws) ≡ []
unfolding bytes_of
no_bytes ws i h = rw (drop_of_length-le ws h)

-- bytes spell a quarter as many words
pub words_spelled : (bytes : List ℕ) → length (words_of bytes) ≡ length bytes / 4
unfolding words_of
words_spelled [] = refl
words_spelled (a ∷ []) = refl
words_spelled (a ∷ (b ∷ [])) = refl
words_spelled (a ∷ (b ∷ (c ∷ []))) = refl
words_spelled (a ∷ (b ∷ (c ∷ (d ∷ rest)))) = omega (arith, words_spelled rest)

-- ---- one undoes the other

-- the word that the four bytes of a word spell
word_of_four : (w : ℕ) → w < word_values → word_of (w % 256) (w / 256 % 256) (w / 65536 % 256) (w / 16777216 % 256) ≡ w
word_of_four w h =
    let low : w / 256 % 256 + 256 * (w / 65536) ≡ w / 256 = omega (arith, div-div-eq-div-mul w 256 256) in
    let high : w / 65536 % 256 + 256 * (w / 16777216) ≡ w / 65536 = omega (arith, div-div-eq-div-mul w 65536 256) in
    let small : w / 16777216 < 256 = omega arith in
    let top : w / 16777216 % 256 ≡ w / 16777216 = omega arith in
    omega arith

-- the words of the bytes of words are these words
pub words_of_bytes : (ws : List ℕ) → AllBelow word_values ws → words_of (bytes_of ws) ≡ ws
unfolding words_of bytes_of
words_of_bytes [] h = refl
words_of_bytes (w ∷ ws) h = ap₂ ◌∷◌ (word_of_four w h.0) (words_of_bytes ws h.1)

-- the four bytes of the word that four bytes spell
four_of_word : (a b c d : ℕ) → a < 256 → b < 256 → c < 256 → d < 256 → four_of (word_of a b c d) ≡ a ∷ b ∷ c ∷ d ∷ []
four_of_word a b c d ha hb hc hd =
    ap₂ ◌∷◌ (omega arith) (ap₂ ◌∷◌ (omega arith) (ap₂ ◌∷◌ (omega arith) (ap₂ ◌∷◌ (omega arith) refl)))

-- the bytes of the words of bytes are these bytes, where they make whole words
pub bytes_of_words : (bs : List ℕ) → AllBelow 256 bs → length bs % 4 ≡ 0 → bytes_of (words_of bs) ≡ bs
unfolding words_of bytes_of
bytes_of_words [] h m = refl
bytes_of_words (a ∷ []) h m = absurd (omega arith)
bytes_of_words (a ∷ (b ∷ [])) h m = absurd (omega arith)
bytes_of_words (a ∷ (b ∷ (c ∷ []))) h m = absurd (omega arith)
bytes_of_words (a ∷ (b ∷ (c ∷ (d ∷ rest)))) h m =
    ap₂ ◌++◌ (four_of_word a b c d h.0 h.1.0 h.1.1.0 h.1.1.1.0) (bytes_of_words rest h.1.1.1.1 (omega arith))
