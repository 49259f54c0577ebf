use lib.Ieee.{round, units, odd, size, span, climb, of_bits, neg}
use lib.Count.{count_trailing_zeros}
use Rattle.near_earth.specs.Finite.{finite_drag}
use Rattle.near_earth.proofs.finite.finite_drag.Goals as goal

pub returns : goal.returns
unfolding finite_drag round units odd size span climb count_trailing_zeros of_bits neg
returns c =
    let is-finite7 = c.before.before in
    let is-finite5 = is-finite7.before.before in
    let is-finite3 = is-finite5.before.before in
    let is_finite = is-finite3 in
    simp (
      c.is_finite-9.ensures,
      c.is_finite-8.ensures,
      is-finite7.is_finite-7.ensures,
      is-finite7.is_finite-6.ensures,
      is-finite5.is_finite-5.ensures,
      is-finite5.is_finite-4.ensures,
      is-finite3.is_finite-3.ensures,
      is-finite3.is_finite-2.ensures,
      is_finite.is_finite.ensures,
    )
