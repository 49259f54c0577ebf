use lib.Ieee.{round, units, odd, size, span, climb, of_bits, neg}
use lib.Count.{count_trailing_zeros}
use Rattle.lunar_solar.specs.Dscom.{zmol_of}
use Rattle.lunar_solar.proofs.dscom.zmol_of.Goals as goal

pub returns : goal.returns
unfolding zmol_of round units odd size span climb count_trailing_zeros of_bits neg
returns c = simp c.rem_turn.ensures
