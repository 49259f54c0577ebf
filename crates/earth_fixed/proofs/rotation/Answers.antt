use lib.Ieee.{round, units, odd, size, span, climb, of_bits, neg}
use lib.Count.{count_trailing_zeros}
use Rattle.earth_fixed.specs.Frame.{rotation_of}
use Rattle.earth_fixed.proofs.rotation.Goals as goal

pub returns : goal.returns
unfolding rotation_of round units odd size span climb count_trailing_zeros of_bits neg
returns c = simp (c.sin_cos-t.ensures.sin_value.0, c.sin_cos-t.ensures.sin_value.1)
