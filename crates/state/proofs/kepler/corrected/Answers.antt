use lib.Ieee.{round, units, odd, size, span, climb, of_bits, neg}
use lib.Count.{count_trailing_zeros}
use Rattle.state.specs.Kepler.{corrected}
use Rattle.state.proofs.kepler.corrected.Goals as goal

pub returns : goal.returns
unfolding corrected round units odd size span climb count_trailing_zeros of_bits neg
returns c =
    let sin-cos = c in
    simp (c.held-tem5.ensures, sin-cos.sin_cos-e.ensures.sin_value.0, sin-cos.sin_cos-e.ensures.sin_value.1)
