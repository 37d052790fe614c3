-- `put_line` meets its contract: the number that the line begins with is that of its kind.
use Rattle.std.proofs.Common.{◌+◌, ◌≡◌, refl}
use denote.Enum.Declared.{tag_of}
use Rattle.frames.specs.declared.Kind.{Kind}
use Rattle.frames.specs.declared.Kind.TheVariants.{Size, Frame}
use Rattle.frames.specs.contracts.Kind.{the_type}
use Rattle.frames.specs.Lines.{kind_number}
use Rattle.frames.proofs.Lines.{line_is}
use Rattle.frames.proofs.put_line.Goals as goal

-- the number that the code reads off a kind is the kind's
number_read : (kind : Kind) → tag_of the_type kind + 6 ≡ kind_number kind
number_read Size = refl
number_read Frame = refl

pub returns : goal.returns
returns c =
    let x = c.args in
    rw (number_read x.kind, line_is (kind_number x.kind) x.number x.words.now) at c.put_line.ensures
