-- A need that was taken from a free chunk.
use Rattle.std.specs.Prelude.{ℕ, ◌+◌, ◌-◌, ◌≡◌, List, ◌++◌}
use Rattle.layout.specs.Numbers.{first_chunk}
use Rattle.layout.specs.Chunks.{Chunk, free, total, written}
use Rattle.rules.specs.Rules.{taken, cut}
use Rattle.passes.specs.Places.{Placed}
use Rattle.stores.specs.declared.taking.Piece.{Piece}

-- `need` words of a free chunk of `s` words were taken, where `asked` were asked for, and are the live chunk `piece`
pub record Took (a : List ℕ) (pre : List Chunk) (s : ℕ) (post : List Chunk) (need asked : ℕ) (piece : Piece) (after : List ℕ) : Type 0 where
  pub starts : piece.chunk ≡ first_chunk + total pre + (s - taken need s)
  pub has : piece.words ≡ taken need s
  pub leaves : after ≡ written (pre ++ (cut need asked s ++ post)) a

-- the same for whatever stands at `chunk`
abbrev pub TakesAt : List ℕ → ℕ → ℕ → ℕ → ℕ → Piece → List ℕ → Type 0
TakesAt a link chunk need asked piece after =
    (pre : List Chunk) (s : ℕ) (post : List Chunk) → Placed a pre (free s) post link chunk → Took a pre s post need asked piece after
