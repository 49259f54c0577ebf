use borrow.Author.Tests.{eq-eqb, ne_eqb}
use Rattle.station_text.specs.Words.{formed}
use Rattle.station_text.proofs.well_formed.Goals as goal

pub returns-then-size-whole : goal.returns-then-size-whole
unfolding formed
returns-then-size-whole c = simp (eq-eqb _ _ c.if-size-whole.true)

pub returns : goal.returns
unfolding formed
returns c = simp (ne_eqb _ _ c.if-size-whole.false)
