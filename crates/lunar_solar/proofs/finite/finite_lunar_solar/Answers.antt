use lib.Ieee.{round, units, odd, size, span, climb, of_bits, neg}
use lib.Count.{count_trailing_zeros}
use Rattle.lunar_solar.specs.Finite.{finite_lunar_solar}
use Rattle.lunar_solar.proofs.finite.finite_lunar_solar.Goals as goal

pub returns : goal.returns
unfolding finite_lunar_solar round units odd size span climb count_trailing_zeros of_bits neg
returns c =
    let c1 = c in
    simp (c.is_finite-2.ensures, c.is_finite.ensures, c.finite_periodics-2.ensures, c1.finite_periodics.ensures)
