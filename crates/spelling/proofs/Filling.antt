-- A list that a loop fills from the front.
use Prim.Native.Nat.{ℕ, ◌+◌, ◌-◌, ◌≤◌}
use mathlib.Core.Path.{◌≡◌, sym, ◌∙◌}
use mathlib.Core.List.{List, [], ◌++◌, append_assoc, append-nil}
use native.Mathlib.Omega.{arith}
use lib.ListN.{length, take, length-append}
use lib.Seq.{sets, sets-eq, length-sets, take_at, take_all, length-take-le}
use borrow.Rule.Slice.PartMut.{put_mid, mid_of, mid_len, same_len_mid}
use Rattle.std.proofs.lemmas.Slice.{take-put_mid}

-- the list `l`, once `l₀`: its first `at` elements, and `rest`, which is still to be stored, make the whole that it is
-- to become
abbrev pub Filling : List ℕ → List ℕ → ℕ → List ℕ → List ℕ → Type 0
Filling l₀ l at rest whole = (at ≤ length l₀) × (length l ≡ length l₀) × (take at l ++ rest ≡ whole)

-- the first elements of the rest, `vs`, are stored
pub filled_on : {left whole : List ℕ} (l₀ l : List ℕ) (at next : ℕ) (vs rest : List ℕ) → next ≡ at + length vs → next ≤ length l₀
    → left ≡ vs ++ rest → Filling l₀ l at left whole → Filling l₀ (sets l at vs) next rest whole
filled_on l₀ l at next vs rest n h e f =
    let long : length (take at l ++ vs) ≡ next = omega (arith, length-append (take at l) vs, length-take-le at l (omega arith)) in
    (h, length-sets l at vs ∙ f.1, rw (sets-eq vs l at (omega arith), take_at (take at l ++ vs) _ next long, append_assoc, ← e) f.2)

-- nothing is left to store: what is stored is the whole
pub filled_up : {rest whole : List ℕ} (l₀ l : List ℕ) (at : ℕ) → rest ≡ [] → Filling l₀ l at rest whole → take at l ≡ whole
filled_up {rest} {whole} l₀ l at e f =
    let z : take at l ++ [] ≡ whole = rw e at f.2 in
    sym (append-nil (take at l)) ∙ z

-- and it is the list
pub filled : {rest whole : List ℕ} (l₀ l : List ℕ) (at : ℕ) → length l₀ ≤ at → rest ≡ [] → Filling l₀ l at rest whole → l ≡ whole
filled l₀ l at h e f = sym (take_all at l (omega arith)) ∙ filled_up l₀ l at e f

-- the next elements, `vs`, are copied to their place
pub copied_on : {left whole : List ℕ} (l₀ l : List ℕ) (at end next : ℕ) (vs rest : List ℕ) → at + length vs ≡ end → next ≡ end
    → next ≤ length l₀ → left ≡ vs ++ rest → Filling l₀ l at left whole → Filling l₀ (put_mid at (end - at) l vs) next rest whole
copied_on l₀ l at end next vs rest n h fits e f =
    let part : length (mid_of at (end - at) l) ≡ end - at = mid_len at end l (omega arith) in
    let kept : length (put_mid at (end - at) l vs) ≡ length l = same_len_mid at (end - at) l vs (omega arith) in
    let front : take next (put_mid at (end - at) l vs) ≡ take at l ++ vs =
    take-put_mid at (end - at) l vs next (omega arith) (omega arith) in
    (fits, kept ∙ f.1, rw (front, append_assoc, ← e) f.2)
