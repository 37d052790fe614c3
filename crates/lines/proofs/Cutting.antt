-- Where a text is cut makes no difference to what is heard.
use mathlib.Core.Path.{◌≡◌, refl, sym, ap, ◌∙◌}
use mathlib.Core.Bool.{Bool, true, false}
use mathlib.Core.List.{List, [], ◌∷◌, ◌++◌, append-nil, append_assoc, flatten}
use Prim.Native.Nat.{ℕ}
use lib.Dec.{eqb}
use Rattle.digits.specs.Digits.{line_end}
use Rattle.requests.specs.declared.Place.{Place}
use Rattle.replies.specs.Boards.{Board}
use Rattle.lines.specs.Pieces.{Hearing, hears, goes_on, heard_after}

-- a hearing with earlier replies before its own
abbrev pub behind : List ℕ → Hearing → Hearing
behind replies hearing = record { replies = replies ++ hearing.replies; place = hearing.place; board = hearing.board }

-- earlier replies stay before all that follows
pub behind_goes_on : (replies : List ℕ) (hearing : Hearing) (bytes : List ℕ)
    → goes_on (behind replies hearing) bytes ≡ behind replies (goes_on hearing bytes)
behind_goes_on replies hearing bytes = rw append_assoc

-- the first byte is heard, and then the others
pub hears_first : (place : Place) (board : Board) (b : ℕ) (bs : List ℕ) → hears place board (b ∷ bs) ≡ goes_on (hears place board (b ∷ [])) bs
unfolding hears
hears_first place board b bs = go (eqb b line_end) refl
  where
    go : (ends : Bool) → eqb b line_end ≡ ends → hears place board (b ∷ bs) ≡ goes_on (hears place board (b ∷ [])) bs
    go true e = rw (e, hears, append-nil)
    go false e = rw (e, hears)

-- where a text is cut makes no difference
pub hears_append : (place : Place) (board : Board) (xs ys : List ℕ) → hears place board (xs ++ ys) ≡ goes_on (hears place board xs) ys
unfolding hears
hears_append place board [] ys = refl
hears_append place board (b ∷ xs) ys =
    let first = hears place board (b ∷ []) in
    hears_first place board b (xs ++ ys)
    ∙ ap (behind first.replies) (hears_append first.place first.board xs ys)
    ∙ rw (hears_first place board b xs) (sym (behind_goes_on first.replies (hears first.place first.board xs) ys))

-- a hearing goes on with bytes and then with more as with all of them at once
pub goes_on_append : (hearing : Hearing) (xs ys : List ℕ) → goes_on (goes_on hearing xs) ys ≡ goes_on hearing (xs ++ ys)
goes_on_append hearing xs ys =
    behind_goes_on hearing.replies (hears hearing.place hearing.board xs) ys
    ∙ ap (behind hearing.replies) (sym (hears_append hearing.place hearing.board xs ys))

-- pieces are heard as what they make together
pub heard_joined : (hearing : Hearing) (pieces : List (List ℕ)) → heard_after hearing pieces ≡ goes_on hearing (flatten pieces)
unfolding flatten hears
heard_joined hearing [] = rw append-nil
heard_joined hearing (piece ∷ pieces) = heard_joined (goes_on hearing piece) pieces ∙ goes_on_append hearing piece (flatten pieces)

-- two ways to cut one text are heard alike
pub cut_anywhere : (hearing : Hearing) (pieces others : List (List ℕ)) → flatten pieces ≡ flatten others
    → heard_after hearing pieces ≡ heard_after hearing others
cut_anywhere hearing pieces others same = heard_joined hearing pieces ∙ rw same (sym (heard_joined hearing others))
