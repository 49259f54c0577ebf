use Rattle.requests.specs.Two.{went_on}
use Rattle.requests.proofs.go_on.Goals as goal

pub returns : goal.returns
unfolding went_on
returns c =
    simp (c.held_at-held.ensures, c.integrator_of.ensures, c.reached-a.ensures)
