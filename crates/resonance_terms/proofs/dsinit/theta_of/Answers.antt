use lib.Ieee.{round, units, odd, size, span, climb, of_bits, neg}
use lib.Count.{count_trailing_zeros}
use Rattle.resonance_terms.specs.Dsinit.{theta_of}
use Rattle.resonance_terms.proofs.dsinit.theta_of.Goals as goal

pub returns : goal.returns
unfolding theta_of round units odd size span climb count_trailing_zeros of_bits neg
returns c = simp c.rem_turn.ensures
