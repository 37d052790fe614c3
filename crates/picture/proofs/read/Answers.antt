-- `read` meets its contract: the text is bad, or the words that were found in it are accepted or not.
use Rattle.std.proofs.Common.{◌≡◌, Some, arith}
use Rattle.picture.proofs.Decoding.{reads_words}
use Rattle.picture.proofs.read.Goals as goal

pub returns : goal.returns
returns c =
    let found : c.decode.result ≡ Some c.in_ok-n.n = grind arith in
    reads_words _ _ _ _ (rw found at c.decode.ensures) c.accept.ensures
