use Rattle.sightings.specs.Sightings.{seen_after}
use Rattle.sightings.proofs.seen_since.Goals as goal

pub returns : goal.returns
unfolding seen_after
returns c = simp (c.row_sine-sine.ensures, c.request-a.ensures)
