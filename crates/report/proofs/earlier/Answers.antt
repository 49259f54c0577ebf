use borrow.Author.Tests.{lt-ltb, le-ltb}
use Rattle.report.specs.Report.{earlier}
use Rattle.report.proofs.earlier.Goals as goal

pub returns-then-b-a : goal.returns-then-b-a
unfolding earlier
returns-then-b-a c = simp (lt-ltb _ _ c.if-b-a.true)

pub returns : goal.returns
unfolding earlier
returns c = simp (le-ltb _ _ c.if-b-a.false)
