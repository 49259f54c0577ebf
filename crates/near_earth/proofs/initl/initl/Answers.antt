use lib.Ieee.{round, units, odd, size, span, climb, of_bits, neg}
use lib.Count.{count_trailing_zeros}
use Rattle.near_earth.specs.Initl.{initl}
use Rattle.near_earth.proofs.initl.initl.Goals as goal

pub returns : goal.returns
unfolding initl round units odd size span climb count_trailing_zeros of_bits neg
returns c =
    let unkozai = c.before.before in
    let xke = unkozai.before.before in
    let sqrt = xke in
    simp (
      c.two_thirds-ao.ensures,
      c.xke-2.ensures,
      unkozai.unkozai-no.ensures,
      unkozai.two_thirds-ak.ensures,
      xke.xke.ensures,
      xke.sin_cos-io.ensures.sin_value.0,
      xke.sin_cos-io.ensures.sin_value.1,
      sqrt.sqrt-rteosq.ensures,
    )
