use Rattle.storage.specs.Storage.{lunar_solar_at}
use Rattle.storage.proofs.lunar_solar_at.Goals as goal

pub returns : goal.returns
unfolding lunar_solar_at
returns c = simp (c.periodics_at-moon.ensures, c.periodics_at-sun.ensures)
