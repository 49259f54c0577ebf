use Rattle.std.proofs.Common.{◌∙◌}
use Rattle.roster.proofs.Tests.{same_pointwise}
use Rattle.roster.proofs.scan.same_row.Goals as goal

pub returns : goal.returns
returns c = c.eq.ensures ∙ same_pointwise c.args.row.now c.args.instants.now
