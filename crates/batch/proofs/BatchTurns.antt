-- How a loop over the records of a batch goes: those before a place are filled, and those behind it are as they came.
use Prim.Native.Nat.{ℕ}
use mathlib.Core.Path.{◌≡◌, sym, ap, ◌∙◌}
use mathlib.Core.List.{List, [], ◌∷◌, ◌++◌, append_assoc}
use Rattle.rules.specs.Libraries.{ours}
use Rattle.rules.specs.Batches.{made_singly, served, wanted_in, filled, Batch, batch_on, Fills}
use Rattle.rules.specs.declared.Request.{Request}
use Rattle.rules.proofs.Batches.{batch_none, batch_more}

-- what a batch comes to behind records that are filled already
abbrev pub behind : List Request → Batch → Batch
behind before batch = record { records = before ++ batch.records; words = batch.words }

-- the record `r`, answered on the words `ws`
abbrev pub answered : List ℕ → Request → Request
answered ws r = filled r (served (made_singly ours (wanted_in r) ws).answer)

-- one turn: the first record of the rest is filled, and `zs` are the words then
pub turn_goes : (ys : List ℕ) (xs : List Request) (ws : List ℕ) (before : List Request) (r : Request) (rest : List Request) (zs : List ℕ)
    → zs ≡ (made_singly ours (wanted_in r) ws).words → behind before (batch_on ws (r ∷ rest)) ≡ batch_on ys xs
    → behind (before ++ answered ws r ∷ []) (batch_on zs rest) ≡ batch_on ys xs
turn_goes ys xs ws before r rest zs is goes =
    let after : Batch → Batch = λ batch. behind (answered ws r ∷ []) batch in
    ap (λ (rs : List Request). record { records = rs; words = (batch_on zs rest).words })
    (append_assoc before (answered ws r ∷ []) (batch_on zs rest).records)
    ∙ ap (λ (l : List ℕ). behind before (after (batch_on l rest))) is
    ∙ ap (behind before) (sym (batch_more ours ws r rest))
    ∙ goes

-- the loop is left where nothing is behind the place
pub all_filled : (ys : List ℕ) (xs : List Request) (ws : List ℕ) (before : List Request) → behind before (batch_on ws []) ≡ batch_on ys xs
    → Fills (batch_on ys xs) (before ++ []) ws
all_filled ys xs ws before goes =
    let e = ap (behind before) (sym (batch_none ours ws)) ∙ goes in
    record { answers = ap (λ (batch : Batch). batch.records) e; leaves = ap (λ (batch : Batch). batch.words) e }
