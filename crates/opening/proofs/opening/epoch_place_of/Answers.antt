use mathlib.Core.Path.{sym, ap, ◌∙◌}
use lib.Ieee.{round, units, odd, size, span, climb, of_bits, neg}
use lib.Count.{count_trailing_zeros}
use Rattle.opening.specs.Opening.{epoch_place}
use Rattle.opening.proofs.opening.epoch_place_of.Goals as goal

pub returns-in-NearEarth : goal.returns-in-NearEarth
unfolding epoch_place round units odd size span climb count_trailing_zeros of_bits neg
returns-in-NearEarth c = sym (ap epoch_place c.in-NearEarth.is)

pub returns-in-DeepSpace : goal.returns-in-DeepSpace
unfolding epoch_place round units odd size span climb count_trailing_zeros of_bits neg
returns-in-DeepSpace c = c.epoch_place.ensures ∙ sym (ap epoch_place c.in-DeepSpace.is)
