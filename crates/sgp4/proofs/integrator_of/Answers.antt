use mathlib.Core.Path.{sym, ap, ◌∙◌}
use Rattle.sgp4.specs.Sgp4.{integrator_by, integrator_of}
use Rattle.sgp4.proofs.integrator_of.Goals as goal

pub returns-in-NearEarth : goal.returns-in-NearEarth
unfolding integrator_by integrator_of
returns-in-NearEarth c = c.no_integrator.ensures ∙ sym (ap integrator_by c.in-NearEarth.is)

pub returns-in-DeepSpace : goal.returns-in-DeepSpace
unfolding integrator_by integrator_of
returns-in-DeepSpace c = sym (ap integrator_by c.in-DeepSpace.is)
