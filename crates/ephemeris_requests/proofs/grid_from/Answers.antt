use Rattle.floats.proofs.Branch.{yes_by, no_by}
use Rattle.ephemeris_requests.specs.Requests.{grid_from}
use Rattle.ephemeris_requests.proofs.grid_from.Goals as goal

pub returns-then-is_lawful : goal.returns-then-is_lawful
unfolding grid_from
returns-then-is_lawful c = yes_by _ _ c.is_lawful.ensures c.if-is_lawful.true

pub returns : goal.returns
unfolding grid_from
returns c = no_by _ _ c.is_lawful.ensures c.if-is_lawful.false
