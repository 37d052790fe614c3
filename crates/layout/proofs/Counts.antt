-- How many chunks an arena can have.
use mathlib.Core.Path.{◌≡◌}
use mathlib.Core.Bool.{true}
use mathlib.Core.List.{List, [], ◌∷◌}
use Prim.Native.Nat.{ℕ, ◌*◌, ◌≤◌}
use native.Mathlib.Omega.{arith}
use lib.ListN.{length}
use Rattle.layout.specs.Numbers.{least_size}
use Rattle.layout.specs.Chunks.{Chunk, total}
use Rattle.layout.specs.Walk.{sound, chunks_of}
use Rattle.layout.proofs.Holds.{Sizes, Lawful}
use Rattle.layout.proofs.Round.{sound_chunks}

pub least_total : (ks : List Chunk) → Sizes ks → least_size * length ks ≤ total ks
least_total [] z = omega arith
least_total (k ∷ ks) z = omega (arith, least_total ks z.2)

pub chunk_count_lem : (n : ℕ) (ks : List Chunk) → Lawful n ks → length ks ≤ 4095
chunk_count_lem n ks l = omega (arith, least_total ks l.sizes)

pub at_most_4095 : (a : List ℕ) → sound a ≡ true → length (chunks_of a) ≤ 4095
at_most_4095 a e = chunk_count_lem (length a) (chunks_of a) (sound_chunks a e).law
