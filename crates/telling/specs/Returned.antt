-- What a C function tells its caller.
use Rattle.std.specs.Prelude.{ℕ, List}
use Rattle.rules.specs.Answers.{Answer}

-- the code that it returns and the lent array, once it has stored the fields there, are together the answer
abbrev pub returned : ℕ → List ℕ → Answer
returned code fields = record { code = code; values = fields }
