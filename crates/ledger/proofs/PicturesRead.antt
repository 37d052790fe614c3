-- A reading that is done: the ledger has the blocks of the picture, and the words are what the picture shows.
use mathlib.Core.Path.{◌≡◌, sym, ap, ◌∙◌}
use mathlib.Core.Bool.{true}
use mathlib.Core.List.{List}
use Prim.Native.Nat.{ℕ}
use lib.ListN.{length, get_or}
use Rattle.layout.specs.Walk.{sound}
use Rattle.rules.specs.Pictures.{Says, said}
use Rattle.rules.specs.Calls.{read_on}
use Rattle.rules.proofs.Saying.{said_says}
use Rattle.rules.proofs.PictureCalls.{read_leaves}
use Rattle.ledger.specs.Ledger.{pictured_blocks, Done}
use Rattle.ledger.specs.Holders.{pictured_word}
use Rattle.ledger.proofs.Agreeing.{Agrees}

-- words that a text says, where they are a sound arena
pub said_agrees : (n : ℕ) (text ws : List ℕ) → Says text ws → length ws ≡ n → sound ws ≡ true → Agrees n ws (pictured_blocks (said text))
said_agrees n text ws s long d = record { is_sound = d; long = long; lists = ap pictured_blocks ((said_says text ws).1 s) }

module _ (text a : List ℕ) (z : Done (read_on text a).answer) where
  pub read_agrees : (n : ℕ) → length a ≡ n → Agrees n (read_on text a).words (pictured_blocks (said text))
  read_agrees n long = let (s, e, d) = read_leaves text a z in said_agrees n text _ s (e ∙ long) d

  pub read_shows : (i : ℕ) → get_or (read_on text a).words i 0 ≡ pictured_word (said text) i
  read_shows i = let (s, e, d) = read_leaves text a z in sym (ap (λ found. pictured_word found i) ((said_says text _).1 s))
