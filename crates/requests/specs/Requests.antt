-- What a line asks for.
use Rattle.std.specs.Prelude.{ℕ, ◌+◌, ◌*◌, Bool, cond, ◌&&◌, List, length, take, drop, eqb}
use Rattle.digits.specs.Digits.{all_digits, number_of}
use Rattle.requests.specs.declared.Request.{Request}
use Rattle.requests.specs.declared.Request.TheVariants.{Start, Alloc, Free, Realloc, Report, Malformed}

-- a line has two digits for its kind, and four for each field
abbrev pub digits_for : ℕ → ℕ
digits_for fields = 2 + fields * 4

-- the line is of this kind, and has so many fields
abbrev pub asks : List ℕ → ℕ → ℕ → Bool
asks line kind fields = eqb (length line) (digits_for fields) && eqb (number_of (take 2 line)) kind

-- a field of the line, numbered from 0
abbrev pub field : List ℕ → ℕ → ℕ
field line i = number_of (take 4 (drop (digits_for i) line))

-- the request of a line, given without its end
unfoldable pub request_of : List ℕ → Request
request_of line =
    cond (all_digits line)
    (cond (asks line 1 1) (Start (field line 0))
    (cond (asks line 2 1) (Alloc (field line 0))
    (cond (asks line 3 1) (Free (field line 0))
    (cond (asks line 4 2) (Realloc (field line 0) (field line 1))
    (cond (asks line 5 0) Report Malformed)))))
    Malformed

-- the kind of a request, which its reply repeats
abbrev pub kind_of : Request → ℕ
kind_of (Start n) = 1
kind_of (Alloc n) = 2
kind_of (Free b) = 3
kind_of (Realloc b n) = 4
kind_of Report = 5
kind_of Malformed = 0
