use mathlib.Core.Path.{ap, sym}
use lib.Ieee.{round, units, odd, size, span, climb, of_bits, neg}
use lib.Count.{count_trailing_zeros}
use Rattle.resonance.specs.Place.{at_epoch}
use Rattle.resonance.proofs.place.at_epoch.Goals as goal

pub returns-in-None : goal.returns-in-None
unfolding at_epoch round units odd size span climb count_trailing_zeros of_bits neg
returns-in-None c = let a = c.args in sym (ap (λ k. at_epoch k a.x) c.in-None.is)

pub returns-in-OneDay : goal.returns-in-OneDay
unfolding at_epoch round units odd size span climb count_trailing_zeros of_bits neg
returns-in-OneDay c = let a = c.args in sym (ap (λ k. at_epoch k a.x) c.in-OneDay.is)

pub returns-in-HalfDay : goal.returns-in-HalfDay
unfolding at_epoch round units odd size span climb count_trailing_zeros of_bits neg
returns-in-HalfDay c = let a = c.args in sym (ap (λ k. at_epoch k a.x) c.in-HalfDay.is)
