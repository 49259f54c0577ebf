use Rattle.storage.specs.Storage.{method_at}
use borrow.Author.Tests.{eq-eqb, ne_eqb}
use Rattle.storage.proofs.method_at.Goals as goal

pub returns-then-kind-eq0 : goal.returns-then-kind-eq0
unfolding method_at
returns-then-kind-eq0 c = simp (eq-eqb _ _ c.if-kind-eq0.true)

pub returns : goal.returns
unfolding method_at
returns c = simp (ne_eqb _ _ c.if-kind-eq0.false, c.deep_space_at.ensures)
