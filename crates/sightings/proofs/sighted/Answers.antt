use mathlib.Core.Path.{sym, ap, ◌∙◌}
use Rattle.sightings.specs.Sightings.{sighted_since, sighted_at}
use Rattle.sightings.proofs.sighted.Goals as goal

pub returns-in-Some : goal.returns-in-Some
unfolding sighted_since sighted_at
returns-in-Some c =
    let f = sighted_since c.args.site c.args.satellite c.args.t.0 in
    c.sighted_since.ensures ∙ sym (ap f c.in-Some.is) ∙ ap f c.since-elapsed.ensures

pub returns-in-None : goal.returns-in-None
unfolding sighted_since sighted_at
returns-in-None c =
    let f = sighted_since c.args.site c.args.satellite c.args.t.0 in
    sym (ap f c.in-None.is) ∙ ap f c.since-elapsed.ensures
