use lib.Ieee.{round, units, odd, size, span, climb, of_bits, neg}
use lib.Count.{count_trailing_zeros}
use Rattle.opening.specs.Opening.{finite_deep}
use Rattle.opening.proofs.opening.finite_deep.Goals as goal

pub returns : goal.returns
unfolding finite_deep round units odd size span climb count_trailing_zeros of_bits neg
returns c = simp (c.finite_integrator.ensures, c.finite_lunar_solar.ensures, c.finite_rates.ensures)
