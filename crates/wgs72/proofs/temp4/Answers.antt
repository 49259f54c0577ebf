use mathlib.Core.Path.{refl}
use lib.Ieee.{round, units, odd, size, span, climb, of_bits, neg, div, mul, add, sub, sum, lt, rem}
use lib.Count.{count_trailing_zeros}
use Rattle.elementary.specs.Trig.{cos_of, turned, wrapped, folded, cos_poly, signed}
use Rattle.wgs72.specs.Computed.{temp4}
use Rattle.wgs72.proofs.temp4.Goals as goal

pub returns : goal.returns
unfolding temp4 round units odd size span climb count_trailing_zeros of_bits neg div mul add sub sum cos_of turned wrapped folded cos_poly signed rem lt
returns c = refl
