use borrow.Author.Tests.{eq-eqb, ne_eqb}
use Rattle.report.specs.State.{finished}
use Rattle.report.proofs.State.finish.Goals as goal

pub returns-then-lines-eq0 : goal.returns-then-lines-eq0
unfolding finished
returns-then-lines-eq0 c = simp (c.closed.ensures, eq-eqb _ _ c.if-lines-eq0.true)

pub returns-then-second-eq0 : goal.returns-then-second-eq0
unfolding finished
returns-then-second-eq0 c =
    simp (c.closed-then-second-eq0.ensures, ne_eqb _ _ c.if-lines-eq0.false, eq-eqb _ _ c.if-second-eq0.true)

pub returns : goal.returns
unfolding finished
returns c =
    simp (c.closed-2.ensures, c.with_lines.ensures, ne_eqb _ _ c.if-lines-eq0.false, ne_eqb _ _ c.if-second-eq0.false)
