-- A line that cannot be read makes no call: what it is answered.
use mathlib.Core.Path.{◌≡◌, refl}
use Rattle.digits.specs.Digits.{glyph}
use Rattle.requests.specs.declared.Request.TheVariants.{Malformed}
use Rattle.replies.specs.Boards.{Board, reply_text, outcome_of, replied}
use Rattle.lines.specs.Table.{line_of}

-- it is answered 0007, and nothing changes
pub malformed_reply : (board : Board) → replied Malformed board ≡ record { reply = line_of "0007"; board = board }
unfolding outcome_of replied reply_text glyph
malformed_reply board = refl
