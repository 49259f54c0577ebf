use lib.Ieee.{round, units, odd, size, span, climb, of_bits, neg}
use lib.Count.{count_trailing_zeros}
use Rattle.near_earth.specs.Sgp4init.{altered}
use Rattle.near_earth.proofs.sgp4init.altered.Goals as goal

pub returns : goal.returns
unfolding altered round units odd size span climb count_trailing_zeros of_bits neg
returns c = simp c.pow4-qzms24.ensures
