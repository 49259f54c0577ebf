use Rattle.report.specs.Report.{is_unopened}
use borrow.Author.Rules.{rules}
use Rattle.report.proofs.is_unopened.Goals as goal

pub returns-in-Near : goal.returns-in-Near
unfolding is_unopened
returns-in-Near c = search rules

pub returns-in-Deep : goal.returns-in-Deep
unfolding is_unopened
returns-in-Deep c = search rules

pub returns-in-Unopened : goal.returns-in-Unopened
unfolding is_unopened
returns-in-Unopened c = simp c.in-Unopened.is
