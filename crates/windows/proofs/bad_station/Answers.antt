use lib.Ieee.{round, units, odd, size, span, climb, of_bits, neg}
use lib.Count.{count_trailing_zeros}
use Rattle.windows.proofs.bad_station.Goals as goal

pub returns : goal.returns
unfolding round units odd size span climb count_trailing_zeros of_bits neg
returns c = cc
