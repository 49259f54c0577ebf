use Rattle.report.specs.Report.{is_deep}
use borrow.Author.Rules.{rules}
use Rattle.report.proofs.is_deep.Goals as goal

pub returns-in-Near : goal.returns-in-Near
unfolding is_deep
returns-in-Near c = search rules

pub returns-in-Deep : goal.returns-in-Deep
unfolding is_deep
returns-in-Deep c = search rules

pub returns-in-Unopened : goal.returns-in-Unopened
unfolding is_deep
returns-in-Unopened c = search rules
