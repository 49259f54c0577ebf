use borrow.Author.Tests.{eq-eqb, ne_eqb}
use Rattle.tle.specs.Read.{class_of}
use Rattle.tle.proofs.Class.of_letter.Goals as goal

pub returns-then-b-eq85 : goal.returns-then-b-eq85
unfolding class_of
returns-then-b-eq85 c = simp (eq-eqb _ _ c.if-b-eq85.true)

pub returns-then-b-eq67 : goal.returns-then-b-eq67
unfolding class_of
returns-then-b-eq67 c = simp (ne_eqb _ _ c.if-b-eq85.false, eq-eqb _ _ c.if-b-eq67.true)

pub returns : goal.returns
unfolding class_of
returns c = simp (ne_eqb _ _ c.if-b-eq85.false, ne_eqb _ _ c.if-b-eq67.false)
