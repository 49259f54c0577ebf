use mathlib.Core.Path.{refl}
use lib.Ieee.{round, units, odd, size, span, climb, of_bits, neg}
use lib.Count.{count_trailing_zeros}
use Rattle.lunar_solar.specs.Dscom.{sun_of}
use Rattle.lunar_solar.proofs.dscom.sun_of.Goals as goal

pub returns : goal.returns
unfolding sun_of round units odd size span climb count_trailing_zeros of_bits neg
returns c = refl
