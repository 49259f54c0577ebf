use Rattle.tle.specs.Legal.{in_form}
use Rattle.tle.proofs.limits.in_form.Goals as goal

pub returns : goal.returns
unfolding in_form
returns c = rw (c.in_places.ensures, c.in_layout.ensures)
