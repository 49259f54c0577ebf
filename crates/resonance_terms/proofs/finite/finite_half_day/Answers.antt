use lib.Ieee.{round, units, odd, size, span, climb, of_bits, neg}
use lib.Count.{count_trailing_zeros}
use Rattle.resonance_terms.specs.Finite.{finite_half_day}
use Rattle.resonance_terms.proofs.finite.finite_half_day.Goals as goal

pub returns : goal.returns
unfolding finite_half_day round units odd size span climb count_trailing_zeros of_bits neg
returns c =
    let c1 = c.before.before in
    let c2 = c1.before.before in
    let c3 = c2.before.before in
    let c4 = c3 in
    simp (c.is_finite-10.ensures, c.is_finite-9.ensures, c.is_finite-8.ensures, c1.is_finite-7.ensures, c1.is_finite-6.ensures, c2.is_finite-5.ensures, c2.is_finite-4.ensures, c3.is_finite-3.ensures, c3.is_finite-2.ensures, c4.is_finite.ensures)
