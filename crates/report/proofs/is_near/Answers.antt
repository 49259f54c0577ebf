use Rattle.report.specs.Report.{is_near}
use borrow.Author.Rules.{rules}
use Rattle.report.proofs.is_near.Goals as goal

pub returns-in-Near : goal.returns-in-Near
unfolding is_near
returns-in-Near c = search rules

pub returns-in-Deep : goal.returns-in-Deep
unfolding is_near
returns-in-Deep c = search rules

pub returns-in-Unopened : goal.returns-in-Unopened
unfolding is_near
returns-in-Unopened c = search rules
