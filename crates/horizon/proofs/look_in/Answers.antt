use lib.Ieee.{round, units, odd, size, span, climb, of_bits, neg}
use lib.Count.{count_trailing_zeros}
use Rattle.horizon.specs.Horizon.{look_in}
use Rattle.horizon.proofs.look_in.Goals as goal

pub returns : goal.returns
unfolding look_in round units odd size span climb count_trailing_zeros of_bits neg
returns c =
    let a = c.before.before in
    let s = a in
    simp (
      c.degrees-elevation.ensures,
      c.atan2-2.ensures,
      a.about_turn-azimuth.ensures,
      a.degrees.ensures,
      a.atan2.ensures,
      s.sqrt-flat.ensures,
      s.sqrt-range.ensures,
    )
