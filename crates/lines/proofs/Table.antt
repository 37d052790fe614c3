-- Document 01's starred rows and its move hold: the checker computes them.
use Prim.Native.Nat.{ℕ}
use mathlib.Core.Path.{refl}
use Rattle.layout.specs.Chunks.{header, write, written}
use Rattle.layout.specs.Walk.{meet, walk, walk_from, walked, sound, chunks_of}
use Rattle.layout.specs.Reasons.{arena_gate, request_gate}
use Rattle.rules.specs.Spots.{lowest}
use Rattle.rules.specs.Rules.{joined, copied}
use Rattle.rules.specs.Calls.{start_on, alloc_by, free_on, regrant_by, report_on}
use Rattle.digits.specs.Digits.{worth, glyph}
use Rattle.requests.specs.LinePlaces.{onward, request_at}
use Rattle.replies.specs.Boards.{reply_text, outcome_of, replied}
use Rattle.lines.specs.Pieces.{hears}
use Rattle.lines.specs.Table.{Table}

pub table : Table
unfolding start_on alloc_by free_on regrant_by report_on arena_gate request_gate sound chunks_of walked walk_from walk meet lowest joined copied
    written write header worth glyph reply_text outcome_of replied onward request_at hears
table = (
  (refl, (refl, (refl, (refl, (refl, (refl, (refl, (refl, (refl, (refl, (refl, tt))))))))))),
  λ (x y : ℕ). ((refl, (refl, (refl, (refl, tt)))), (refl, refl)),
)
