use lib.Ieee.{round, units, odd, size, span, climb, of_bits, neg}
use lib.Count.{count_trailing_zeros}
use Rattle.geodetic.specs.Geodetic.{site_of}
use Rattle.geodetic.proofs.site_of.Goals as goal

pub returns : goal.returns
unfolding site_of round units odd size span climb count_trailing_zeros of_bits neg
returns c =
    let l = c.before.before in
    let p = l in
    simp (
      c.placed.ensures,
      l.sin_cos-l.ensures.sin_value.0,
      l.sin_cos-l.ensures.sin_value.1,
      p.sin_cos-p.ensures.sin_value.0,
      p.sin_cos-p.ensures.sin_value.1,
      p.to_radians-lam.ensures,
      p.to_radians-phi.ensures,
    )
