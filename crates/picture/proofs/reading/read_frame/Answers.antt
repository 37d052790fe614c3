-- `read_frame` meets its contract: the words are loaded, and the frame of these is looked for.
use Rattle.std.proofs.Common.{length, sym, ap, ◌∙◌}
use lib.Seq.{drop-drop}
use Rattle.rules.specs.Pictures.{words_in}
use Rattle.picture.proofs.reading.read_frame.Goals as goal

pub returns : goal.returns
returns c =
    let x = c.args in
    record { loads = c.load_words.ensures ∙ ap (words_in (length x.words.now)) (sym (drop-drop 6 x.at x.text.now)); tells = c.has_line.ensures }
