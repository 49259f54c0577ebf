use mathlib.Core.Path.{ap, sym}
use lib.Ieee.{round, units, odd, size, span, climb, of_bits, neg}
use lib.Count.{count_trailing_zeros}
use Rattle.resonance.specs.Place.{delt_of}
use Rattle.resonance.proofs.place.delt_of.Goals as goal

pub returns-in-Forward : goal.returns-in-Forward
unfolding delt_of round units odd size span climb count_trailing_zeros of_bits neg
returns-in-Forward c = sym (ap delt_of c.in-Forward.is)

pub returns-in-Back : goal.returns-in-Back
unfolding delt_of round units odd size span climb count_trailing_zeros of_bits neg
returns-in-Back c = sym (ap delt_of c.in-Back.is)
