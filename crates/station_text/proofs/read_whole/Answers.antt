use borrow.Author.Tests.{eq-eqb, ne_eqb}
use Rattle.station_text.specs.Words.{whole_in}
use Rattle.station_text.proofs.read_whole.Goals as goal

pub returns-then-s-eq0 : goal.returns-then-s-eq0
unfolding whole_in
returns-then-s-eq0 c = simp (eq-eqb _ _ c.if-s-eq0.true)

pub returns : goal.returns
unfolding whole_in
returns c = simp (ne_eqb _ _ c.if-s-eq0.false) c.digits_on.ensures.0
