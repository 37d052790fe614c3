-- A turn of the loop over lent records: an answer is stored in the record at the place.
use Rattle.std.proofs.Common.{◌≡◌, ◌+◌, ◌<◌, ◌≤◌, ◌∙◌, ℕ, List, [], ◌∷◌, ◌++◌, length, get_or, set, refl, sym, ap, arith, append_assoc, length-append}
use Rattle.std.proofs.Math.Seq.{get_or-append_seam, set-append_seam}
use Rattle.rules.specs.Libraries.{ours}
use Rattle.rules.specs.Batches.{made_singly, wanted_in, filled, batch_on, Serves, Fills}
use Rattle.rules.specs.declared.Request.{Request}
use Rattle.rules.specs.declared.Served.{Served}
use Rattle.batch.proofs.BatchTurns.{behind, answered, turn_goes, all_filled}

-- the record at a place, none past the end
abbrev none : Request
none = record { kind = 0; b = 0; n = 0; code = 0; block = 0; granted = 0 }

abbrev pub at : List Request → ℕ → Request
at rs i = get_or rs i none

-- the answer stored in it
abbrev pub put : List Request → ℕ → Served → List Request
put rs i to = set rs i (filled (at rs i) to)

put_at : (before : List Request) (r : Request) (rest : List Request) (to : Served) → put (before ++ r ∷ rest) (length before) to ≡ before ++ filled r to ∷ rest
put_at before r rest to = simp (get_or-append_seam, set-append_seam) refl

-- where the loop stands in the batch `xs` on the words `ys`: the records before place `i` are filled, and what is left
-- comes, on these words, to what the whole comes to
abbrev pub Stands : List ℕ → List Request → List ℕ → List Request → ℕ → Type 0
Stands ys xs words requests i =
    (before rest : List Request) × (requests ≡ before ++ rest) × (i ≡ length before) × (behind before (batch_on words rest) ≡ batch_on ys xs)

pub one_turn : (ys : List ℕ) (xs : List Request) (words : List ℕ) (requests : List Request) (i : ℕ) (to : Served) (after : List ℕ)
    → Stands ys xs words requests i → i < length requests
    → Serves (made_singly ours (wanted_in (at requests i)) words) to after
    → Stands ys xs after (put requests i to) (i + 1)
one_turn ys xs words requests i to after (before, [], now, place, goes) h s = absurd (omega (arith, ap length now, length-append before [], place, h))
one_turn ys xs words requests i to after (before, r ∷ rest, now, place, goes) h s =
    let was : at requests i ≡ r = rw (now, place) (get_or-append_seam before r rest none) in
    let serves = rw was at s in (
      before ++ answered words r ∷ [],
      rest,
      rw (now, place) (put_at before r rest to ∙ rw serves.answers (sym (append_assoc before (answered words r ∷ []) rest))),
      rw (length-append, place) refl,
      turn_goes ys xs words before r rest after serves.leaves goes,
    )

pub at_end : (ys : List ℕ) (xs : List Request) (words : List ℕ) (requests : List Request) (i : ℕ) → Stands ys xs words requests i → length requests ≤ i
    → Fills (batch_on ys xs) requests words
at_end ys xs words requests i (before, [], now, place, goes) h = rw now (all_filled ys xs words before goes)
at_end ys xs words requests i (before, r ∷ rest, now, place, goes) h = absurd (omega (arith, ap length now, length-append before (r ∷ rest), place, h))
