use borrow.Author.Tests.{eq-eqb, ne_eqb}
use Rattle.tle.specs.Read.{designator_at}
use Rattle.tle.proofs.reader.designator_at.Goals as goal

pub returns-then-line-eq32 : goal.returns-then-line-eq32
unfolding designator_at
returns-then-line-eq32 c = simp (eq-eqb _ _ c.if-line-eq32.true)

pub returns : goal.returns
unfolding designator_at
returns c = simp (ne_eqb _ _ c.if-line-eq32.false, c.field_at-launch.ensures.0)
