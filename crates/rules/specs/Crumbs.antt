-- Crumbs: stretches of free words that are too short to be split off.
use Rattle.std.specs.Prelude.{ℕ, ◌+◌, ◌&&◌, cond, List, [], ◌∷◌, ltb}
use Rattle.layout.specs.Numbers.{least_split}
use Rattle.layout.specs.Chunks.{Chunk, free, live}

-- so many words count 1 as a crumb where there are any, but fewer than are split off
abbrev pub crumb : ℕ → ℕ
crumb words = cond (ltb 0 words && ltb words least_split) 1 0

-- what stretches count together, where `count` says what each counts
abbrev pub counted : (ℕ → ℕ) → List ℕ → ℕ
counted count [] = 0
counted count (words ∷ others) = count words + counted count others

abbrev pub crumbs : List ℕ → ℕ
crumbs stretches = counted crumb stretches

-- the sizes of the free chunks
abbrev pub free_sizes : List Chunk → List ℕ
free_sizes [] = []
free_sizes (free s ∷ ks) = s ∷ free_sizes ks
free_sizes (live s asked ∷ ks) = free_sizes ks
