-- Pictures and texts frame by frame.
use Prim.Native.Nat.{ℕ, suc, ◌+◌, ◌-◌, ◌≤◌, ◌<◌, min}
use mathlib.Core.Path.{◌≡◌, refl, sym, ap, ap₂, ◌∙◌}
use mathlib.Core.Bool.{Bool, true, false, ◌&&◌, and_assoc}
use mathlib.Core.List.{List, [], ◌∷◌, ◌++◌, map}
use native.Mathlib.Omega.{arith}
use lib.ListN.{length, take, drop}
use lib.Seq.{take_all}
use lib.Dec.{eqb, leb}
use borrow.Author.Tests.{leb-true, leb-false}
use Rattle.digits.specs.Digits.{upper}
use Rattle.digits.proofs.Capitals.{take_upper, drop_upper}
use Rattle.rules.specs.Pictures.{frame_words, frame, frames_from, frames_for, words_in, line_head, line_length, standing_from, same}

-- how many words the next frame has, of `left` that are left
abbrev pub NextFrame : ℕ → ℕ → Type 0
NextFrame left count = (0 < left) × (count ≡ min frame_words left)

-- it is full and others may follow, or it is the last
data Next (left count : ℕ) : Type 0 where
  full : count ≡ frame_words → frames_for left ≡ suc (frames_for (left - count)) → Next left count
  last : count ≡ left → left ≤ frame_words → frames_for left ≡ 1 → frames_for (left - count) ≡ 0 → Next left count

next : {left count : ℕ} → NextFrame left count → Next left count
next {left} {count} (some, e) = go (leb frame_words left) refl
  where
    go : (enough : Bool) → leb frame_words left ≡ enough → Next left count
    go true f = let more = leb-true frame_words left f in full (omega arith) (omega arith)
    go false f = let few = leb-false frame_words left f in last (omega arith) (omega arith) (omega arith) (omega arith)

pub frames_next : (ws : List ℕ) (at count : ℕ) → NextFrame (length ws) count
    → frames_from (frames_for (length ws)) at ws ≡ frame at (take count ws) ++ frames_from (frames_for (length ws - count)) (at + count) (drop count ws)
unfolding frames_from
frames_next ws at count is = go (next is)
  where
    go : Next (length ws) count
        → frames_from (frames_for (length ws)) at ws
        ≡ frame at (take count ws) ++ frames_from (frames_for (length ws - count)) (at + count) (drop count ws)
    go (full eight more) = rw (more, eight)
    go (last all few one none) = rw (none, one, take_all frame_words ws few, take_all count ws (omega arith))

pub standing_next : (left count : ℕ) (text : List ℕ) → NextFrame left count
    → standing_from (frames_for left) left text
    ≡ words_in count (drop line_head text) ++ standing_from (frames_for (left - count)) (left - count) (drop (line_length count) text)
unfolding standing_from
standing_next left count text (some, e) = go (next (some, e))
  where
    go : Next left count
        → standing_from (frames_for left) left text
        ≡ words_in count (drop line_head text) ++ standing_from (frames_for (left - count)) (left - count) (drop (line_length count) text)
    go (full eight more) = let rest : left - frame_words ≡ left - count = omega arith in rw (more, ← e, rest)
    go (last all few one none) = rw (none, one, ← e)

-- two texts are the same where their fronts and their rests are
same_append : (xs ys zs : List ℕ) → same xs (ys ++ zs) ≡ (same (take (length ys) xs) ys && same (drop (length ys) xs) zs)
unfolding same
same_append xs [] zs = refl
same_append [] (y ∷ ys) zs = refl
same_append (x ∷ xs) (y ∷ ys) zs =
    ap (λ (rest : Bool). eqb x y && rest) (same_append xs ys zs)
    ∙ sym (and_assoc (eqb x y) (same (take (length ys) xs) ys) (same (drop (length ys) xs) zs))

pub same_split : (text ys zs : List ℕ)
    → same (map upper text) (ys ++ zs) ≡ (same (map upper (take (length ys) text)) ys && same (map upper (drop (length ys) text)) zs)
same_split text ys zs =
    same_append (map upper text) ys zs
    ∙ ap₂ (λ (front back : List ℕ). same front ys && same back zs) (take_upper (length ys) text) (drop_upper (length ys) text)
