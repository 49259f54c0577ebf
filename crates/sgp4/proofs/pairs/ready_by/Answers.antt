use mathlib.Core.Path.{sym, ap, ◌∙◌}
use Rattle.satellite.specs.declared.Method.{Method}
use Rattle.sgp4.specs.Two.{ready_by}
use Rattle.sgp4.proofs.pairs.ready_by.Goals as goal

pub returns-in-NearEarth : goal.returns-in-NearEarth
unfolding ready_by
returns-in-NearEarth c =
    let a = c.args in
    c.ready_two.ensures ∙ sym (ap (λ (m : Method). ready_by a.s m a.h a.t a.h2 a.t2) c.in-NearEarth.is)

pub returns-in-DeepSpace : goal.returns-in-DeepSpace
unfolding ready_by
returns-in-DeepSpace c =
    let a = c.args in
    c.deep_two.ensures ∙ sym (ap (λ (m : Method). ready_by a.s m a.h a.t a.h2 a.t2) c.in-DeepSpace.is)
