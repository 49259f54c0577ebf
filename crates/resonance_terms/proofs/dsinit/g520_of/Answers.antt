use lib.Ieee.{round, units, odd, size, span, climb, of_bits, neg}
use lib.Count.{count_trailing_zeros}
use Rattle.elementary.proofs.Branch.{yes, no}
use Rattle.resonance_terms.specs.Dsinit.{g520_of}
use Rattle.resonance_terms.proofs.dsinit.g520_of.Goals as goal

pub returns-then-em : goal.returns-then-em
unfolding g520_of round units odd size span climb count_trailing_zeros of_bits neg
returns-then-em c = yes _ _ _ c.if-em.true

pub returns : goal.returns
unfolding g520_of round units odd size span climb count_trailing_zeros of_bits neg
returns c = no _ _ _ c.if-em.false
