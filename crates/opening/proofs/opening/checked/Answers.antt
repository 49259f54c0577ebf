use Rattle.opening.specs.Opening.{checked}
use Rattle.opening.proofs.opening.checked.Goals as goal

pub returns-then-finite_record : goal.returns-then-finite_record
unfolding checked
returns-then-finite_record c = simp (← c.finite_record.ensures, c.if-finite_record.true, c.newly.ensures)

pub returns : goal.returns
unfolding checked
returns c = simp (← c.finite_record.ensures, c.if-finite_record.false)
