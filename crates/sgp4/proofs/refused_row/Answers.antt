use lib.Ieee.{round, units, odd, size, span, climb, of_bits, neg}
use lib.Count.{count_trailing_zeros}
use Rattle.sgp4.specs.Row.{refused_row}
use mathlib.Core.Path.{refl}
use Rattle.sgp4.proofs.refused_row.Goals as goal

pub returns : goal.returns
unfolding refused_row round units odd size span climb count_trailing_zeros of_bits neg
returns c = refl
