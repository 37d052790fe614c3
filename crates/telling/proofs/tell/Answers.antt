-- When all is stored, the array has as many of the four fields as the answer has.
use Prim.Native.Nat.{ℕ}
use mathlib.Core.Path.{◌≡◌, sym, ap, ◌∙◌, subst⁻¹}
use mathlib.Core.List.{List}
use native.Mathlib.Omega.{arith}
use lib.ListN.{take}
use lib.Seq.{take_all}
use Rattle.answers.specs.Readings.{read}
use Rattle.answers.specs.declared.Numbers.{Numbers}
use Rattle.telling.specs.Returned.{returned}
use Rattle.telling.proofs.Returned.{told}
use Rattle.telling.proofs.tell.Goals as goal

pub returns : goal.returns
returns g c =
    let numbers = c.in_numbers-numbers.result in
    let stored = c.loop-i.fields in
    let all : stored ≡ take c.loop-i.i stored = sym (take_all c.loop-i.i stored (omega arith)) in
    let many : c.loop-i.i ≡ g.F.Fields.COUNT = omega arith in
    ap (λ (fields : List ℕ). returned numbers.code fields) (all ∙ c.loop-i.invariant.1 ∙ ap (λ (n : ℕ). take n numbers.fields) many)
    ∙ subst⁻¹
    (λ (x : Numbers). returned x.code (take g.F.Fields.COUNT x.fields) ≡ read g.F.Fields.values g.F.Fields.COUNT c.args.answer)
    c.in_numbers-numbers.ensures (told g.F.Fields.laws c.args.answer)
