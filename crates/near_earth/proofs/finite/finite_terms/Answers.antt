use lib.Ieee.{round, units, odd, size, span, climb, of_bits, neg}
use lib.Count.{count_trailing_zeros}
use Rattle.near_earth.specs.Finite.{finite_terms}
use Rattle.near_earth.proofs.finite.finite_terms.Goals as goal

pub returns : goal.returns
unfolding finite_terms round units odd size span climb count_trailing_zeros of_bits neg
returns c =
    let is-finite3 = c.before.before in
    let is_finite = is-finite3 in
    simp (
      c.is_finite-5.ensures,
      c.is_finite-4.ensures,
      is-finite3.is_finite-3.ensures,
      is-finite3.is_finite-2.ensures,
      is_finite.is_finite.ensures,
    )
