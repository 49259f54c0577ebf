use lib.Ieee.{round, units, odd, size, span, climb, of_bits, neg}
use lib.Count.{count_trailing_zeros}
use Rattle.resonance.specs.Time.{in_range}
use Rattle.resonance.proofs.time.in_range.Goals as goal

pub returns : goal.returns
unfolding in_range round units odd size span climb count_trailing_zeros of_bits neg
returns c = simp c.distance.ensures
