use Rattle.number_list.specs.Numbers.{blanked}
use Rattle.number_list.proofs.after_blank.Goals as goal

pub returns-then-t : goal.returns-then-t
unfolding blanked
returns-then-t c = simp c.if-t.true

pub returns : goal.returns
unfolding blanked
returns c = simp (c.if-t.false, c.fault.ensures)
