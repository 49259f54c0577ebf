use mathlib.Core.Path.{sym, ap, ◌∙◌}
use Rattle.opening.specs.Opening.{finite_method}
use Rattle.opening.proofs.opening.finite_method.Goals as goal

pub returns-in-NearEarth : goal.returns-in-NearEarth
unfolding finite_method
returns-in-NearEarth c = sym (ap finite_method c.in-NearEarth.is)

pub returns-in-DeepSpace : goal.returns-in-DeepSpace
unfolding finite_method
returns-in-DeepSpace c = c.finite_deep.ensures ∙ sym (ap finite_method c.in-DeepSpace.is)
