use mathlib.Core.Path.{sym, ap, ◌∙◌}
use Rattle.sightings.specs.Sightings.{shown, look_at}
use Rattle.sightings.proofs.look_at.Goals as goal

pub returns-in-Ok : goal.returns-in-Ok
unfolding shown look_at
returns-in-Ok c =
    sym (ap shown c.in-Ok.is) ∙ ap shown c.sighted-seen.ensures

pub returns-in-Err : goal.returns-in-Err
unfolding shown look_at
returns-in-Err c =
    c.straight_down.ensures ∙ sym (ap shown c.in-Err.is) ∙ ap shown c.sighted-seen.ensures
