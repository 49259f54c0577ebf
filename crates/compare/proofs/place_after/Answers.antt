use borrow.Author.Tests.{eq-eqb, ne_eqb}
use Rattle.compare.proofs.place_after.Goals as goal

pub returns-then-passed-eq0 : goal.returns-then-passed-eq0
returns-then-passed-eq0 c = rw (eq-eqb c.args.passed 0 c.if-passed-eq0.true)

pub returns : goal.returns
returns c = rw (ne_eqb c.args.passed 0 c.if-passed-eq0.false) c.place_at.ensures
