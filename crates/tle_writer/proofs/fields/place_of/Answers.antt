use borrow.Author.Tests.{eq-eqb, ne_eqb}
use Rattle.tle_writer.specs.Field.{place}
use Rattle.tle_writer.proofs.fields.place_of.Goals as goal

pub returns-then-n-eq0 : goal.returns-then-n-eq0
unfolding place
returns-then-n-eq0 c = simp (eq-eqb _ _ c.if-n-eq0.true)

pub returns : goal.returns
unfolding place
returns c = simp (ne_eqb _ _ c.if-n-eq0.false)
