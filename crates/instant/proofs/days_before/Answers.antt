use mathlib.Core.Path.{sym}
use Rattle.instant.proofs.Calendar.{days_before_lem}
use Rattle.instant.proofs.days_before.Goals as goal

pub returns : goal.returns
returns c = sym (days_before_lem c.args.years)
