-- `has_line` meets its contract: the line is put into an array, and the text is compared with it.
use Rattle.std.proofs.Common.{◌+◌, ◌-◌, drop, ◌∙◌, sym, arith, length-drop}
use lib.Seq.{length-take-le}
use Rattle.digits.proofs.Putting.{put_length}
use Rattle.rules.specs.Pictures.{line}
use Rattle.rules.proofs.Pictures.{line_length_lem}
use Rattle.frames.proofs.Lines.{line_ends, put_there, line_found}
use Rattle.frames.specs.Lines.{kind_number}
use Rattle.frames.proofs.has_line.Goals as goal

pub overflow_add-at : goal.overflow_add-at
overflow_add-at c = omega (arith, line_ends _ _ _ c.put_line-count.ensures)

pub slice_bounds-matches-end : goal.slice_bounds-matches-end
slice_bounds-matches-end c = omega (arith, line_ends _ _ _ c.put_line-count.ensures)

pub slice_bounds-expected-end : goal.slice_bounds-expected-end
slice_bounds-expected-end c = omega (arith, line_ends _ _ _ c.put_line-count.ensures)

pub slice_bounds-matches-end-2 : goal.slice_bounds-matches-end-2
slice_bounds-matches-end-2 c =
    let put = c.put_line-count.ensures in
    sym (length-take-le _ _ (omega (arith, line_ends _ _ _ put, put_length put)))

pub matches-requires : goal.matches-requires
matches-requires c =
    let x = c.args in
    let put = c.put_line-count.ensures in
    let count = c.put_line-count.result in
    length-take-le (x.at + count - x.at) (drop x.at x.text.now) (omega (arith, length-drop x.at x.text.now, line_ends _ _ _ put))
    ∙ omega arith ∙ sym (length-take-le count _ (omega (arith, line_ends _ _ _ put, put_length put)))

pub returns : goal.returns
returns c =
    let x = c.args in
    let put = c.put_line-count.ensures in
    c.matches.ensures
    ∙ line_found x.text.now _ (line (kind_number x.kind) x.number x.words.now) x.at c.put_line-count.result (put.ends ∙ omega arith)
    (put_there put (omega (arith, line_length_lem (kind_number x.kind) x.number x.words.now)))
