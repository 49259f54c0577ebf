use Rattle.report.specs.State.{with_lines}
use Rattle.report.proofs.with_lines.Goals as goal

pub returns : goal.returns
unfolding with_lines
returns c = c.with_held.ensures
