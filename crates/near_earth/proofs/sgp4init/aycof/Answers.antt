use lib.Ieee.{round, units, odd, size, span, climb, of_bits, neg}
use lib.Count.{count_trailing_zeros}
use Rattle.near_earth.specs.Sgp4init.{aycof}
use Rattle.near_earth.proofs.sgp4init.aycof.Goals as goal

pub returns : goal.returns
unfolding aycof round units odd size span climb count_trailing_zeros of_bits neg
returns c = simp c.j3oj2.ensures
