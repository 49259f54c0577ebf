use mathlib.Core.Path.{ap, ◌∙◌}
use Rattle.std.specs.Prelude.{Ok}
use Rattle.sightings.specs.Sightings.{row_sighting}
use Rattle.sightings.proofs.Views.{row_refused, row_answered}
use Rattle.sightings.proofs.row_sighting.Goals as goal

pub returns-then-refusal-ne0 : goal.returns-then-refusal-ne0
unfolding row_sighting
returns-then-refusal-ne0 c = row_refused _ _ _ c.if-refusal-ne0.true

pub returns : goal.returns
unfolding row_sighting
returns c = ap Ok c.look_angles.ensures ∙ row_answered _ _ _ c.if-refusal-ne0.false
