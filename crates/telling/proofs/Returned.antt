-- The code and the fields that go into a lent array are together the answer.
use Prim.Native.Nat.{ℕ}
use mathlib.Core.Path.{◌≡◌, sym, ap, ◌∙◌}
use mathlib.Core.List.{List}
use lib.ListN.{take}
use Rattle.layout.specs.declared.Reason.{Reason}
use Rattle.rules.specs.Answers.{Answer, Outcome}
use Rattle.rules.specs.Calls.{alloc_next_on, Roves, write_on}
use Rattle.answers.specs.Readings.{read}
use Rattle.answers.specs.Padded.{four, padded}
use Rattle.answers.specs.Determined.{Determined}
use Rattle.answers.specs.FieldLaws.{FieldLaws}
use Rattle.answers.proofs.Padded.{read_told, read_count}
use Rattle.picture.specs.Writing.{Writes}
use Rattle.picture.proofs.Promised.{writes_determined}
use Rattle.std.specs.Prelude.{Result}
use Rattle.telling.specs.Returned.{returned}

-- ---- the answers, by their numbers

-- the code and the first of the four are the answer
pub told : {A : Type 0} {values : A → List ℕ} {count : ℕ} → FieldLaws values count → (answer : Result A Reason)
    → let x = padded (read values count answer) in returned x.code (take count x.fields) ≡ read values count answer
told {values = values} {count} laws answer =
    let is = read values count answer in
    ap (λ (n : ℕ). returned is.code (take n (four is.values))) (sym (read_count laws answer)) ∙ read_told laws answer

-- ---- a contract leaves no choice

-- two codes, arrays and arenas that give an outcome are the same
pub returned_determined : (outcome : Outcome) → Determined (λ (x : ℕ × List ℕ). returned x.0 x.1) outcome
returned_determined outcome r r' after after' g g' =
    let e : returned r.0 r.1 ≡ returned r'.0 r'.1 = g.answers ∙ sym g'.answers in
    (ap (λ (x : Answer). (x.code, x.values)) e, g.leaves ∙ sym g'.leaves)

-- so of a writing, and the texts left with them
pub returned_writes : (a text : List ℕ) (r r' : ℕ × List ℕ) (after after' : List ℕ) → Writes a text (returned r.0 r.1) after
    → Writes a text (returned r'.0 r'.1) after' → (r ≡ r') × (after ≡ after')
returned_writes a text = writes_determined (λ (x : ℕ × List ℕ). returned x.0 x.1) a text (returned_determined (write_on a text))

-- so of next fit, and the rovers with them
pub returned_roves : (a : List ℕ) (rover n : ℕ) (r r' : ℕ × List ℕ) (after after' : List ℕ) (moved moved' : ℕ)
    → Roves a rover n (returned r.0 r.1) after moved → Roves a rover n (returned r'.0 r'.1) after' moved'
    → (r ≡ r') × (after ≡ after') × (moved ≡ moved')
returned_roves a rover n r r' after after' moved moved' g g' =
    let (same, words) = returned_determined (alloc_next_on a rover n) r r' after after' g.gives g'.gives in
    (same, words, g.moves ∙ sym g'.moves)
