-- A batch whose records are plain words, six to each, in the order of a record's fields.
use Rattle.std.specs.Prelude.{ℕ, ◌≡◌, List, [], ◌∷◌, ◌++◌}
use Rattle.rules.specs.Batches.{Batch}
use Rattle.rules.specs.declared.Request.{Request}

-- the records that words spell; up to five words that are left over spell none
unfoldable pub records_in : List ℕ → List Request
records_in (k ∷ (b ∷ (n ∷ (c ∷ (l ∷ (g ∷ rest)))))) = record { kind = k; b = b; n = n; code = c; block = l; granted = g } ∷ records_in rest
records_in (k ∷ (b ∷ (n ∷ (c ∷ (l ∷ []))))) = []
records_in (k ∷ (b ∷ (n ∷ (c ∷ [])))) = []
records_in (k ∷ (b ∷ (n ∷ []))) = []
records_in (k ∷ (b ∷ [])) = []
records_in (k ∷ []) = []
records_in [] = []

-- the words that are left over
unfoldable pub left_over : List ℕ → List ℕ
left_over (k ∷ (b ∷ (n ∷ (c ∷ (l ∷ (g ∷ rest)))))) = left_over rest
left_over (k ∷ (b ∷ (n ∷ (c ∷ (l ∷ []))))) = k ∷ b ∷ n ∷ c ∷ l ∷ []
left_over (k ∷ (b ∷ (n ∷ (c ∷ [])))) = k ∷ b ∷ n ∷ c ∷ []
left_over (k ∷ (b ∷ (n ∷ []))) = k ∷ b ∷ n ∷ []
left_over (k ∷ (b ∷ [])) = k ∷ b ∷ []
left_over (k ∷ []) = k ∷ []
left_over [] = []

-- the words that spell records
abbrev pub spelled : List Request → List ℕ
spelled [] = []
spelled (r ∷ rs) = r.kind ∷ r.b ∷ r.n ∷ r.code ∷ r.block ∷ r.granted ∷ spelled rs

-- what the code promises: the words spell the records of the batch, and what was left over stays
pub record FillsWords (batch : Batch) (before after words : List ℕ) : Type 0 where
  pub answers : after ≡ spelled batch.records ++ left_over before
  pub leaves : words ≡ batch.words
