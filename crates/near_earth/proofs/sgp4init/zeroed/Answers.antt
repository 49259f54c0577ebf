use lib.Ieee.{round, units, odd, size, span, climb, of_bits, neg}
use lib.Count.{count_trailing_zeros}
use Rattle.near_earth.specs.Sgp4init.{zeroed}
use Rattle.near_earth.proofs.sgp4init.zeroed.Goals as goal

pub returns : goal.returns
unfolding zeroed round units odd size span climb count_trailing_zeros of_bits neg
returns c = simp (c.recovered-elements.ensures, c.kept-kept.ensures)
