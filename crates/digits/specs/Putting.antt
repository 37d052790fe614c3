-- Bytes that are put into a lent text.
use Rattle.std.specs.Prelude.{ℕ, ◌+◌, ◌≡◌, List, length}
use Rattle.std.proofs.lemmas.List.Edits.{sets}

-- the bytes `bs` are put into the text `room` from `at` on, up to `end`; the rest of the text stays
pub record Puts (at : ℕ) (bs : List ℕ) (room : List ℕ) (end : ℕ) (text : List ℕ) : Type 0 where
  pub ends : end ≡ at + length bs
  pub says : text ≡ sets room at bs
