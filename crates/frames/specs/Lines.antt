-- The kinds of lines, and a line that is looked for in a text.
use Rattle.std.specs.Prelude.{Bool, List, map, ℕ, length, take}
use Rattle.digits.specs.Digits.{upper}
use Rattle.rules.specs.Pictures.{same}
use Rattle.frames.specs.declared.Kind.{Kind}
use Rattle.frames.specs.declared.Kind.TheVariants.{Size, Frame}

-- the number that a line of this kind begins with
abbrev pub kind_number : Kind → ℕ
kind_number Size = 6
kind_number Frame = 7

-- a text begins with this line, digits of either case
unfoldable pub has_line : List ℕ → List ℕ → Bool
has_line expected text = same (map upper (take (length expected) text)) expected
