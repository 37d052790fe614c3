-- The text of a reply, part by part.
use Prim.Native.Nat.{ℕ, ◌*◌}
use mathlib.Core.Path.{◌≡◌, refl}
use mathlib.Core.List.{List, [], ◌∷◌, ◌++◌}
use lib.ListN.{length}
use Rattle.rules.specs.Answers.{Answer}
use Rattle.digits.specs.Digits.{line_end, four_digits, digits_of, in_digits}
use Rattle.digits.proofs.Counts.{two_of, four_of, in_same}
use Rattle.digits.proofs.Putting.{in_length}
use Rattle.replies.specs.Boards.{fields_text, reply_text}

-- a code and fields as an answer
abbrev pub numbers : ℕ → List ℕ → Answer
numbers code values = record { code = code; values = values }

-- ---- its fields

pub fields_length : (vs : List ℕ) → length (fields_text vs) ≡ length vs * 4
fields_length = in_length four_digits 4 (λ v. refl)

-- ---- all of it

-- its parts are the kind, the code, the fields and the line's end
pub reply_is : (kind code : ℕ) (values : List ℕ)
    → digits_of 2 kind ++ (digits_of 2 code ++ (in_digits (digits_of 4) values ++ line_end ∷ [])) ≡ reply_text kind (numbers code values)
unfolding reply_text
reply_is kind code values = rw (two_of kind, two_of code, in_same (digits_of 4) four_digits four_of values)
