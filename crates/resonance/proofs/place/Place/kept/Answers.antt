use borrow.Author.Tests.{eq-eqb, ne_eqb}
use Rattle.resonance.specs.Place.{kept}
use Rattle.resonance.proofs.place.Place.kept.Goals as goal

pub returns-then-n-eq0 : goal.returns-then-n-eq0
unfolding kept
returns-then-n-eq0 c = simp (eq-eqb _ _ c.if-n-eq0.true) c.facing.ensures

pub returns-else-n-eq0 : goal.returns-else-n-eq0
unfolding kept
returns-else-n-eq0 c = simp (ne_eqb _ _ c.if-n-eq0.false)
