use Rattle.storage.specs.Storage.{side_at}
use borrow.Author.Tests.{eq-eqb, ne_eqb}
use Rattle.storage.proofs.side_at.Goals as goal

pub returns-then-mark-eq0 : goal.returns-then-mark-eq0
unfolding side_at
returns-then-mark-eq0 c = simp (eq-eqb _ _ c.if-mark-eq0.true)

pub returns : goal.returns
unfolding side_at
returns c = simp (ne_eqb _ _ c.if-mark-eq0.false)
