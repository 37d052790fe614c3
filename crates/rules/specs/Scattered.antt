-- How many words can be free while no free chunk is long enough for a request.
use Rattle.std.specs.Prelude.{ℕ, ◌+◌, ◌-◌, ◌*◌}
use Rattle.layout.specs.Numbers.{need}

-- a free chunk that is too short for a request of `w` has no more words than this: sizes are even, and so is the need
abbrev pub most_too_short : ℕ → ℕ
most_too_short w = need w - 2

-- around so many live blocks no more words than this are free in chunks that are all too short: free chunks lie apart,
-- so there is at most one more of them than of live blocks
abbrev pub scattered : ℕ → ℕ → ℕ
scattered w blocks = most_too_short w * (blocks + 1)
