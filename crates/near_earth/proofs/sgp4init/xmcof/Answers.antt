use lib.Ieee.{round, units, odd, size, span, climb, of_bits, neg}
use lib.Count.{count_trailing_zeros}
use Rattle.near_earth.specs.Sgp4init.{xmcof}
use Rattle.near_earth.proofs.sgp4init.xmcof.Goals as goal

pub returns-then-ecco : goal.returns-then-ecco
unfolding xmcof round units odd size span climb count_trailing_zeros of_bits neg
returns-then-ecco c = simp (c.x2o3.ensures, c.if-ecco.true)

pub returns : goal.returns
unfolding xmcof round units odd size span climb count_trailing_zeros of_bits neg
returns c = simp c.if-ecco.false
