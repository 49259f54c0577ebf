use Rattle.state.specs.Ahead.{plane_from}
use Rattle.state.specs.Two.{plane_solved}
use Rattle.state.proofs.sgp4.pairs.planes.Goals as goal

pub returns : goal.returns
unfolding plane_solved plane_from
returns c =
    let su = c.before.before in
    let i = su in (
      simp (c.plane_of-first.ensures, su.atan2_two-su.ensures.0, i.in_plane-i.ensures),
      simp (c.plane_of-second.ensures, su.atan2_two-su.ensures.1, i.in_plane-i2.ensures),
    )
