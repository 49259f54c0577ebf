use lib.Ieee.{round, units, odd, size, span, climb, of_bits, neg}
use lib.Count.{count_trailing_zeros}
use Rattle.state.specs.Orientation.{state}
use Rattle.state.proofs.orientation.state.Goals as goal

pub returns : goal.returns
unfolding state round units odd size span climb count_trailing_zeros of_bits neg
returns c =
    let sin-cos3 = c.before.before in
    let sin-cos = sin-cos3 in
    simp (
      c.oriented.ensures,
      c.vkmpersec.ensures,
      sin-cos3.sin_cos-su.ensures.value,
      sin-cos3.sin_cos-xinc.ensures.value,
      sin-cos.sin_cos-xnode.ensures.value,
    )
