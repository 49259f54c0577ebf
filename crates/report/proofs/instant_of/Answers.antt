use Rattle.report.specs.Report.{instant_of}
use borrow.Author.Rules.{rules}
use Rattle.report.proofs.instant_of.Goals as goal

pub returns-in-Some : goal.returns-in-Some
unfolding instant_of
returns-in-Some c = search rules

pub returns-in-None : goal.returns-in-None
unfolding instant_of
returns-in-None c = search rules
