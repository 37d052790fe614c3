-- A reader's contract fixes everything: two outcomes that it allows are equal.
use mathlib.Core.Path.{◌≡◌, sym, ◌∙◌}
use mathlib.Core.List.{List}
use Prim.Native.Nat.{ℕ}
use Rattle.requests.specs.declared.Place.{Place}
use Rattle.replies.specs.Boards.{Board}
use Rattle.lines.specs.Pieces.{HearsAll}
use Rattle.lines.specs.declared.Heard.{Heard}

pub hears_determined : (place : Place) (on : Board) (bytes room : List ℕ) (heard heard' : Heard) (words words' text text' : List ℕ)
    → HearsAll place on bytes room heard words text → HearsAll place on bytes room heard' words' text'
    → (heard ≡ heard') × (words ≡ words') × (text ≡ text')
hears_determined place on bytes room heard heard' words words' text text' h h' = (
  rw (h.places, h.lends, h.takes, h.counts, h'.places, h'.lends, h'.takes, h'.counts),
  h.stores ∙ sym h'.stores,
  h.says ∙ sym h'.says,
)
