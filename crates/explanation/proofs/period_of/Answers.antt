use borrow.Author.Tests.{eq-eqb, ne_eqb}
use Rattle.explanation.specs.Explained.{period_of}
use Rattle.explanation.proofs.period_of.Goals as goal

pub returns-then-motion-eq0 : goal.returns-then-motion-eq0
unfolding period_of
returns-then-motion-eq0 c = simp (eq-eqb _ _ c.if-motion-eq0.true)

pub returns : goal.returns
unfolding period_of
returns c = simp (ne_eqb _ _ c.if-motion-eq0.false)
