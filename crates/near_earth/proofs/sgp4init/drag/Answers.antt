use lib.Ieee.{round, units, odd, size, span, climb, of_bits, neg}
use lib.Count.{count_trailing_zeros}
use Rattle.near_earth.specs.Sgp4init.{drag}
use Rattle.near_earth.proofs.sgp4init.drag.Goals as goal

pub returns : goal.returns
unfolding drag round units odd size span climb count_trailing_zeros of_bits neg
returns c =
    let sin-cos = c.before.before.before in
    let cos2 = sin-cos.before.before in
    let cc3 = cos2.before.before in
    let cc4 = cc3.before.before in
    let cos = cc4.before.before in
    let cc2 = cos in
    simp (
      c.pow3-delmo.ensures,
      sin-cos.sin_cos-mo.ensures.sin_value.0,
      sin-cos.sin_cos-mo.ensures.sin_value.1,
      sin-cos.xmcof-xmcof.ensures,
      cos2.cos-2.ensures,
      cc3.cc3.ensures,
      cc3.cc5-cc5.ensures,
      cc4.cc4-cc4.ensures,
      cos.cos.ensures,
      cc2.cc2.ensures,
    )
