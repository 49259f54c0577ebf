use Rattle.text.specs.Output.{line}
use Rattle.monday_report.specs.Print.{dashes}
use Rattle.monday_report.proofs.Printing.{timed, timed_span}
use Rattle.text.proofs.Pieces.{same}
use Rattle.monday_report.proofs.lines.put_times.Goals as goal

pub returns-then-accepted-eq0 : goal.returns-then-accepted-eq0
unfolding dashes line
returns-then-accepted-eq0 c = same (timed _ _ _ c.if-accepted-eq0.true) c.put_bytes.ensures

pub returns : goal.returns
returns c = same (timed_span _ _ _ c.if-accepted-eq0.false) c.put_span.ensures
