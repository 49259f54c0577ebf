use lib.Ieee.{round, units, odd, size, span, climb, of_bits, neg}
use lib.Count.{count_trailing_zeros}
use Rattle.sgp4.specs.Sgp4.{no_integrator}
use mathlib.Core.Path.{refl}
use Rattle.sgp4.proofs.no_integrator.Goals as goal

pub returns : goal.returns
unfolding no_integrator round units odd size span climb count_trailing_zeros of_bits neg
returns c = refl
