use lib.Ieee.{round, units, odd, size, span, climb, of_bits, neg}
use lib.Count.{count_trailing_zeros}
use Rattle.resonance_terms.specs.Finite.{finite_integrator}
use Rattle.resonance_terms.proofs.finite.finite_integrator.Goals as goal

pub returns : goal.returns
unfolding finite_integrator round units odd size span climb count_trailing_zeros of_bits neg
returns c =
    let c1 = c.before.before in
    let c2 = c1 in
    simp (c.is_finite-6.ensures, c.is_finite-5.ensures, c.is_finite-4.ensures, c1.is_finite-3.ensures, c1.is_finite-2.ensures, c2.is_finite.ensures, c2.finite_kind.ensures)
