use Rattle.storage.specs.Storage.{deep_space_at}
use Rattle.storage.proofs.deep_space_at.Goals as goal

pub returns : goal.returns
unfolding deep_space_at
returns c =
    simp (c.integrator_at-integrator.ensures, c.lunar_solar_at-periodics.ensures, c.secular_rates_at-rates.ensures)
