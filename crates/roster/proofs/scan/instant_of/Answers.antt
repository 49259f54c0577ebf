use mathlib.Core.Path.{ap, sym, ◌∙◌}
use Rattle.roster.specs.Records.{micros}
use Rattle.roster.proofs.scan.instant_of.Goals as goal

pub returns-in-Some : goal.returns-in-Some
returns-in-Some c = ap micros (sym c.in-Some.is ∙ c.epoch-e.ensures)

pub returns-in-None : goal.returns-in-None
returns-in-None c = ap micros (sym c.in-None.is ∙ c.epoch-e.ensures)
