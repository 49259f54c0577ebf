use Rattle.request_line.proofs.Reading.{minus_ok}
use Rattle.request_line.specs.Times.{minused}
use Rattle.request_line.proofs.after_minus.Goals as goal

pub returns-then-t : goal.returns-then-t
unfolding minused
returns-then-t c = simp (c.if-t.true, c.fault.ensures)

pub returns-then-t-2 : goal.returns-then-t-2
unfolding minused
returns-then-t-2 c = simp (c.if-t.false, c.if-t-2.true, c.fault-then-t-2.ensures)

pub returns : goal.returns
returns c = minus_ok c.args.t c.if-t.false c.if-t-2.false
