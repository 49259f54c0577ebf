use lib.Ieee.{round, units, odd, size, span, climb, of_bits, neg}
use lib.Count.{count_trailing_zeros}
use Rattle.near_earth.specs.Finite.{finite_near}
use Rattle.near_earth.proofs.finite.finite_near.Goals as goal

pub returns : goal.returns
unfolding finite_near round units odd size span climb count_trailing_zeros of_bits neg
returns c =
    let finite-higher = c.before.before in
    let finite-elements = finite-higher in
    simp (
      c.finite_terms.ensures,
      c.finite_rates.ensures,
      finite-higher.finite_higher.ensures,
      finite-higher.finite_drag.ensures,
      finite-elements.finite_elements.ensures,
    )
