use borrow.Author.Tests.{eq-eqb, ne_eqb}
use Rattle.roster.proofs.scan.present_after.Goals as goal

pub returns-then-number-wanted : goal.returns-then-number-wanted
returns-then-number-wanted c = rw (eq-eqb _ _ c.if-number-wanted.true)

pub returns : goal.returns
returns c = rw (ne_eqb _ _ c.if-number-wanted.false)
