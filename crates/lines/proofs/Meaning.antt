-- What is heard of a text, in whatever pieces it comes, is what the text means.
use mathlib.Core.Path.{◌≡◌, refl, sym, ap, ◌∙◌}
use mathlib.Core.Bool.{Bool, true, false}
use mathlib.Core.List.{List, [], ◌∷◌, ◌++◌, append-nil, append_assoc, flatten}
use Prim.Native.Nat.{ℕ, zero, suc, ◌<◌}
use native.Mathlib.Omega.{arith}
use lib.Dec.{eqb}
use lib.ListN.{replicate}
use borrow.Author.Tests.{ne_eqb}
use Rattle.digits.specs.Digits.{line_end}
use Rattle.requests.specs.Requests.{request_of}
use Rattle.requests.specs.LinePlaces.{at_start}
use Rattle.requests.proofs.LinePlaces.{line_place, place_append, request_known, onward_begun, place_begun}
use Rattle.replies.specs.Boards.{Board, replied}
use Rattle.lines.specs.Texts.{lines_from, replied_to, means}
use Rattle.lines.specs.Pieces.{Hearing, hears, goes_on, unheard, closed, heard_in_pieces}
use Rattle.lines.proofs.Cutting.{hears_append, heard_joined}

-- what is heard of a text that goes on with a line is what is replied to the lines that they make together
abbrev HeardAsMeant : List ℕ → Type 0
HeardAsMeant text = (line : List ℕ) (board : Board) → closed (hears (line_place line) board text) ≡ replied_to (lines_from line text) board

heard_as_meant : (text : List ℕ) → HeardAsMeant text
unfolding hears lines_from replied_to
heard_as_meant [] [] board = refl
heard_as_meant [] (b ∷ line) board =
    rw (ne_eqb (line_place (b ∷ line)).digits 0 (omega (arith, place_begun at_start b line)), request_known (b ∷ line))
heard_as_meant (b ∷ text) line board = go (eqb b line_end) refl (heard_as_meant text)
  where
    go : (ends : Bool) → eqb b line_end ≡ ends → HeardAsMeant text
        → closed (hears (line_place line) board (b ∷ text)) ≡ replied_to (lines_from line (b ∷ text)) board
    go true e rest = rw (e, hears, lines_from, request_known line, append_assoc, ← rest [] (replied (request_of line) board).board)
    go false e rest = rw (e, hears, lines_from, ← place_append at_start line b) (rest (line ++ b ∷ []) board)

-- a text that comes whole is heard as it is meant
pub whole_text : (text : List ℕ) (board : Board) → heard_in_pieces (text ∷ []) board ≡ means text board
whole_text text board = heard_as_meant text [] board

-- a text that comes in pieces is heard as it is meant, wherever it is cut
pub pieces_mean : (pieces : List (List ℕ)) (board : Board) → heard_in_pieces pieces board ≡ means (flatten pieces) board
pieces_mean pieces board = ap closed (heard_joined (unheard board) pieces) ∙ whole_text (flatten pieces) board

-- the empty text is answered nothing, and changes nothing
pub nothing_said : (board : Board) → means [] board ≡ record { reply = []; board = board }
unfolding lines_from replied_to
nothing_said board = refl

-- so it is where no piece comes, or any number of empty ones
pub empty_pieces : (pieces : ℕ) (board : Board) → heard_in_pieces (replicate pieces []) board ≡ record { reply = []; board = board }
unfolding hears
empty_pieces zero board = refl
empty_pieces (suc pieces) board = empty_pieces pieces board

-- the end of a text ends an unfinished line as a line end does
line_end_heard : (hearing : Hearing) → 0 < hearing.place.digits → closed (goes_on hearing (line_end ∷ [])) ≡ closed hearing
unfolding hears
line_end_heard hearing begun = simp (ne_eqb hearing.place.digits 0 (omega arith), append-nil)

-- the last line may have an end or not, if it is not empty
pub ended_line : (front : List ℕ) (b : ℕ) (board : Board) → (b ≡ line_end → ⊥)
    → means ((front ++ b ∷ []) ++ line_end ∷ []) board ≡ means (front ++ b ∷ []) board
unfolding hears
ended_line front b board other =
    let text = front ++ b ∷ [] in
    let begun : 0 < (hears at_start board text).place.digits
    = rw (hears_append at_start board front (b ∷ []), ne_eqb b line_end other, hears) (onward_begun _ b) in
    sym (whole_text (text ++ line_end ∷ []) board)
    ∙ rw (hears_append at_start board text (line_end ∷ [])) (line_end_heard (hears at_start board text) begun)
    ∙ whole_text text board
