use Rattle.state.specs.Ahead.{plane_from}
use Rattle.state.proofs.periodics.plane.Goals as goal

pub returns : goal.returns
unfolding plane_from
returns c = simp (c.plane_of.ensures, c.atan2-su.ensures, c.in_plane-i.ensures)
