-- `view_mut` meets its contract: what `size` ensures says which part is the block, and that the arena has it.
use Rattle.arena.proofs.Viewing.{view_none, view_words, view_within}
use Rattle.arena.proofs.view_mut.Goals as goal

pub returns-in_default : goal.returns-in_default
returns-in_default c = view_none _ _ _ _ c.in_default.ensures.answers

pub returns : goal.returns
returns c = view_words _ _ _ c.in-Ok.ensures.answers _

pub slice_bounds-a-end : goal.slice_bounds-a-end
slice_bounds-a-end c = view_within _ _ _ c.in-Ok.ensures.answers
