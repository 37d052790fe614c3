-- What the desk tool is told of bytes.
use Rattle.std.specs.Prelude.{ℕ, ◌%◌, cond, List, length, eqb}
use Rattle.layout.specs.Reasons.{number, arena_gate}
use Rattle.layout.specs.Reasons.{Gate}
use Rattle.std.specs.Prelude.{Ok, Err}
use Rattle.layout.specs.declared.Reason.TheVariants.{Length}
use Rattle.spelling.specs.Words.{words_of}

-- 0 for a gate that is open, otherwise the number of the reason
abbrev pub gate_number : Gate → ℕ
gate_number (Ok _) = 0
gate_number (Err why) = number why

-- the gate of the arena that bytes spell; bytes that are no multiple of four spell none
unfoldable pub bytes_gate : List ℕ → Gate
bytes_gate bytes = cond (eqb (length bytes % 4) 0) (arena_gate (words_of bytes)) (Err Length)
