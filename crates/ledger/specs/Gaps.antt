-- The gaps that ledger blocks and their headers leave in an arena of `n` words, computed from the ledger and `n` alone.
-- Where two blocks meet, or the last ends at `n`, the gap has 0 words.
use Rattle.std.specs.Prelude.{ℕ, ◌+◌, ◌-◌, ◌<◌, cond, List, [], ◌∷◌, ltb}
use Rattle.layout.specs.Numbers.{control_words, header_words}
use Rattle.rules.specs.Crumbs.{counted}
use Rattle.ledger.specs.Ledger.{Entry, Ledger, begins, ends}

-- the gap from word `c` up to the header of the first of the blocks above it, or to the end of the arena
abbrev pub gap_from : ℕ → ℕ → Ledger → ℕ
gap_from n c [] = n - c
gap_from n c (e ∷ es) = begins e - c

-- the gap from word `c` on, and the gap above each block
abbrev pub gaps_from : ℕ → ℕ → Ledger → List ℕ
gaps_from n c [] = gap_from n c [] ∷ []
gaps_from n c (e ∷ es) = gap_from n c (e ∷ es) ∷ gaps_from n (ends e) es

abbrev pub gaps : ℕ → Ledger → List ℕ
gaps n ledger = gaps_from n control_words ledger

-- every one of them has fewer than so many words
abbrev pub EachShorter : ℕ → List ℕ → Type 0
EachShorter words [] = Unit {0}
EachShorter words (g ∷ gs) = (g < words) × EachShorter words gs

-- so many words count 1 as a hole where there are any
abbrev pub hole : ℕ → ℕ
hole words = cond (ltb 0 words) 1 0

-- how many of them have words
abbrev pub holes : List ℕ → ℕ
holes gaps = counted hole gaps

-- a block with its header, joined with the gap right above it and below the blocks `above`, has fewer than so many
-- words
abbrev pub RoomShorter : ℕ → ℕ → Entry → Ledger → Type 0
RoomShorter words n e above = header_words + e.granted + gap_from n (ends e) above < words
