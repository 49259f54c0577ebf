use borrow.Author.Rules.{rules}
use borrow.Author.Tests.{eq-eqb, ne_eqb}
use Rattle.column_faults.specs.Sums.{minus}
use Rattle.column_faults.proofs.one_if_minus.Goals as goal

pub returns-then-b-eq45 : goal.returns-then-b-eq45
unfolding minus
returns-then-b-eq45 c = (simp (eq-eqb _ _ c.if-b-eq45.true), search rules)

pub returns : goal.returns
unfolding minus
returns c = (simp (ne_eqb _ _ c.if-b-eq45.false), search rules)
