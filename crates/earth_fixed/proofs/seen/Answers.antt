use mathlib.Core.Path.{sym, ap, ◌∙◌}
use Rattle.earth_fixed.proofs.Sight.{sight, sighted}
use Rattle.earth_fixed.proofs.seen.Goals as goal

pub returns-in-Some : goal.returns-in-Some
unfolding sight
returns-in-Some c =
    let g = c in
    c.seen_through.ensures ∙ sym (ap (sight g.args.station g.args.position) c.in-Some.is) ∙ sighted _ _ _ _ g.greenwich-angle.ensures

pub returns-in-None : goal.returns-in-None
unfolding sight
returns-in-None c =
    let g = c in
    sym (ap (sight g.args.station g.args.position) c.in-None.is) ∙ sighted _ _ _ _ g.greenwich-angle.ensures
