use lib.Ieee.{round, units, odd, size, span, climb, of_bits, neg}
use lib.Count.{count_trailing_zeros}
use Rattle.resonance_terms.specs.Finite.{finite_one_day}
use Rattle.resonance_terms.proofs.finite.finite_one_day.Goals as goal

pub returns : goal.returns
unfolding finite_one_day round units odd size span climb count_trailing_zeros of_bits neg
returns c = simp (c.is_finite-3.ensures, c.is_finite-2.ensures, c.is_finite.ensures)
