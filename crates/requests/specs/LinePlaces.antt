-- The place in an unfinished line that a reader carries from one piece of a text to the next.
use Rattle.std.specs.Prelude.{ℕ, ◌+◌, ◌*◌, ◌/◌, ◌%◌, cond, ◌&&◌, ltb, eqb}
use Rattle.digits.specs.Digits.{worth, is_digit, four_digit_values}
use Rattle.requests.specs.Requests.{digits_for}
use Rattle.requests.specs.declared.Place.{Place}
use Rattle.requests.specs.declared.Request.{Request}
use Rattle.requests.specs.declared.Request.TheVariants.{Start, Alloc, Free, Realloc, Report, Malformed}

-- the most digits that a request has: two fields
abbrev pub most_digits : ℕ
most_digits = digits_for 2

-- nothing has come of the line
abbrev pub at_start : Place
at_start = record { digits = 0; number = 0 }

-- the line can be no request any more
abbrev pub spoilt : Place
spoilt = record { digits = most_digits + 1; number = 0 }

-- what nine digits make is below this number
abbrev pub nine_digit_values : ℕ
nine_digit_values = four_digit_values * four_digit_values * 16

-- the place after one more byte of the line: its digits are counted, and the number that they make is kept. Of the
-- number, the last nine digits go on: a line that can still go on has no more, and a place that no line leads to must
-- not outgrow its word
unfoldable pub onward : Place → ℕ → Place
onward place b =
    cond (is_digit b && ltb place.digits most_digits)
    (record { digits = place.digits + 1; number = (place.number % nine_digit_values) * 16 + worth b })
    spoilt

-- the request of a line with one field
abbrev pub one_field : ℕ → ℕ → Request
one_field kind n = cond (eqb kind 1) (Start n) (cond (eqb kind 2) (Alloc n) (cond (eqb kind 3) (Free n) Malformed))

-- the request of a line that ends here
unfoldable pub request_at : Place → Request
request_at place =
    let rest = place.number / four_digit_values in
    let last = place.number % four_digit_values in
    cond (eqb place.digits (digits_for 1)) (one_field rest last)
    (cond (eqb place.digits (digits_for 2) && eqb (rest / four_digit_values) 4) (Realloc (rest % four_digit_values) last)
    (cond (eqb place.digits (digits_for 0) && eqb place.number 5) Report Malformed))
