use Rattle.storage.specs.Storage.{resonance_at}
use borrow.Author.Tests.{eq-eqb, ne_eqb}
use Rattle.storage.proofs.resonance_at.Goals as goal

pub returns-then-kind-eq1 : goal.returns-then-kind-eq1
unfolding resonance_at
returns-then-kind-eq1 c = simp (eq-eqb _ _ c.if-kind-eq1.true)

pub returns-then-kind-eq2 : goal.returns-then-kind-eq2
unfolding resonance_at
returns-then-kind-eq2 c =
    simp (ne_eqb _ _ c.if-kind-eq1.false, eq-eqb _ _ c.if-kind-eq2.true, c.one_day_at.ensures)

pub returns : goal.returns
unfolding resonance_at
returns c =
    simp (ne_eqb _ _ c.if-kind-eq1.false, ne_eqb _ _ c.if-kind-eq2.false, c.half_day_at.ensures)
