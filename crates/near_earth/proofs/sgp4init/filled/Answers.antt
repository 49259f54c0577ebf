use lib.Ieee.{round, units, odd, size, span, climb, of_bits, neg}
use lib.Count.{count_trailing_zeros}
use Rattle.near_earth.specs.Sgp4init.{filled}
use Rattle.near_earth.proofs.sgp4init.filled.Goals as goal

pub returns : goal.returns
unfolding filled round units odd size span climb count_trailing_zeros of_bits neg
returns c =
    let terms = c.before.before in
    let higher = terms.before.before in
    let drag = higher.before.before in
    let atmosphere = drag in
    simp (
      c.recovered-elements.ensures,
      c.kept-kept.ensures,
      terms.terms-terms.ensures,
      terms.rates-rates.ensures,
      higher.higher-higher.ensures,
      higher.simple.ensures,
      drag.drag-drag.ensures,
      drag.shape-s.ensures,
      atmosphere.atmosphere-a.ensures,
    )
