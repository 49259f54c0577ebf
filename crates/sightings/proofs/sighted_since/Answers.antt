use Rattle.sightings.specs.Sightings.{sighted_after}
use Rattle.sightings.proofs.sighted_since.Goals as goal

pub returns : goal.returns
unfolding sighted_after
returns c = simp (c.row_sighting.ensures, c.request-a.ensures)
