use lib.Ieee.{round, units, odd, size, span, climb, of_bits, neg}
use lib.Count.{count_trailing_zeros}
use Rattle.resonance_terms.specs.Dsinit.{low_of}
use Rattle.resonance_terms.proofs.dsinit.low_of.Goals as goal

pub returns-then-em : goal.returns-then-em
unfolding low_of round units odd size span climb count_trailing_zeros of_bits neg
returns-then-em c = simp c.if-em.true

pub returns : goal.returns
unfolding low_of round units odd size span climb count_trailing_zeros of_bits neg
returns c = simp (c.g520_of-g520.ensures, c.if-em.false)
