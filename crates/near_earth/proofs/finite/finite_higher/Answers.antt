use lib.Ieee.{round, units, odd, size, span, climb, of_bits, neg}
use lib.Count.{count_trailing_zeros}
use Rattle.near_earth.specs.Finite.{finite_higher}
use Rattle.near_earth.proofs.finite.finite_higher.Goals as goal

pub returns : goal.returns
unfolding finite_higher round units odd size span climb count_trailing_zeros of_bits neg
returns c =
    let is-finite4 = c.before.before in
    let is-finite2 = is-finite4 in
    simp (
      c.is_finite-6.ensures,
      c.is_finite-5.ensures,
      is-finite4.is_finite-4.ensures,
      is-finite4.is_finite-3.ensures,
      is-finite2.is_finite-2.ensures,
      is-finite2.is_finite.ensures,
    )
