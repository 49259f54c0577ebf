use mathlib.Core.Path.{◌∙◌}
use native.Mathlib.Omega.{arith}
use Rattle.tle_writer.proofs.Writes.{closing}
use Rattle.tle_writer.proofs.lines.closed.Goals as goal

pub returns : goal.returns
returns c = c.put_at.ensures.is ∙ closing c.args.line c.checksum-sum.result (omega arith) c.checksum-sum.ensures
