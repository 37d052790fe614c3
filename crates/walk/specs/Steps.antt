-- The check walk as the code makes it. No public contract of a call cites this file.
use Rattle.std.specs.Prelude.{ℕ, ◌+◌, cond, List, length, get_or, Option, None, Some, Result, Ok, Err}
use Rattle.layout.specs.Numbers.{lawful}
use Rattle.layout.specs.Walk.{Walked, broken, whole, header_fits, sound, chunks_of}
use Rattle.layout.specs.declared.Reason.{Reason}
use Rattle.layout.specs.declared.Reason.TheVariants.{Length, Damaged}

-- the size of the chunk that may stand at word `c`
unfoldable pub size_at : List ℕ → ℕ → Option ℕ
size_at a c = cond (header_fits a c) (Some (get_or a c 0)) None

-- how many chunks have been met at the end of a walk, `met` of them before; None where it breaks
abbrev pub met_by : ℕ → Walked → Option ℕ
met_by met broken = None
met_by met (whole ks) = Some (met + length ks)

-- how many chunks a sound arena has; or why the words are none: Length, or else Damaged
unfoldable pub chunk_count : List ℕ → Result ℕ Reason
chunk_count a = cond (lawful (length a)) (cond (sound a) (Ok (length (chunks_of a))) (Err Damaged)) (Err Length)
