-- Words and the bytes that spell them, the lowest byte first.
use Rattle.std.specs.Prelude.{ℕ, ◌+◌, ◌*◌, ◌/◌, ◌%◌, List, [], ◌∷◌, ◌++◌}

-- the word that four bytes spell
abbrev pub word_of : ℕ → ℕ → ℕ → ℕ → ℕ
word_of a b c d = a + 256 * b + 65536 * c + 16777216 * d

-- the four bytes that spell a word
abbrev pub four_of : ℕ → List ℕ
four_of w = (w % 256) ∷ (w / 256 % 256) ∷ (w / 65536 % 256) ∷ (w / 16777216 % 256) ∷ []

-- the words that bytes spell; up to three bytes that are left over spell none
unfoldable pub words_of : List ℕ → List ℕ
words_of (a ∷ (b ∷ (c ∷ (d ∷ rest)))) = word_of a b c d ∷ words_of rest
words_of (a ∷ (b ∷ (c ∷ []))) = []
words_of (a ∷ (b ∷ [])) = []
words_of (a ∷ []) = []
words_of [] = []

-- the bytes that spell words
unfoldable pub bytes_of : List ℕ → List ℕ
bytes_of [] = []
bytes_of (w ∷ ws) = four_of w ++ bytes_of ws
