use mathlib.Core.Path.{sym, ap, ◌∙◌}
use Rattle.satellite.specs.declared.Method.{Method}
use Rattle.sgp4.specs.Kept.{state_by_from}
use Rattle.sgp4.proofs.state_by.Goals as goal

pub returns-in-NearEarth : goal.returns-in-NearEarth
unfolding state_by_from
returns-in-NearEarth c =
    let a = c.args in
    c.sgp4.ensures ∙ sym (ap (λ (m : Method). state_by_from a.s m a.p a.t) c.in-NearEarth.is)

pub returns-in-DeepSpace : goal.returns-in-DeepSpace
unfolding state_by_from
returns-in-DeepSpace c =
    let a = c.args in
    c.deep_space.ensures ∙ sym (ap (λ (m : Method). state_by_from a.s m a.p a.t) c.in-DeepSpace.is)
