use lib.Ieee.{round, units, odd, size, span, climb, of_bits, neg}
use lib.Count.{count_trailing_zeros}
use Rattle.resonance_terms.specs.Dsinit.{dsinit_from}
use Rattle.resonance_terms.proofs.dsinit.dsinit.Goals as goal

pub returns : goal.returns
unfolding dsinit_from round units odd size span climb count_trailing_zeros of_bits neg
returns c = simp (c.start_of-start.ensures, c.theta_of-theta.ensures, c.kind_of-resonance.ensures)
