use borrow.Author.Tests.{eq-eqb, ne_eqb}
use Rattle.report.specs.State.{first_stamp}
use Rattle.report.proofs.first_stamp.Goals as goal

pub returns-then-accepted-eq0 : goal.returns-then-accepted-eq0
unfolding first_stamp
returns-then-accepted-eq0 c = simp (eq-eqb _ _ c.if-accepted-eq0.true)

pub returns : goal.returns
unfolding first_stamp
returns c = simp (ne_eqb _ _ c.if-accepted-eq0.false)
