use Rattle.report.specs.Report.{stamp_of}
use Rattle.report.proofs.stamp_of.Goals as goal

pub returns : goal.returns
unfolding stamp_of
returns c = simp (c.instant_of.ensures, c.epoch.ensures)
