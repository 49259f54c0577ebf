use mathlib.Core.Path.{refl}
use lib.Ieee.{round, units, odd, size, span, climb, of_bits, neg, div, mul, add, sub, sum}
use lib.Count.{count_trailing_zeros}
use Rattle.elementary.specs.Root.{sqrt_of, root_of, units_in, near_root, isqrt}
use Rattle.wgs72.specs.Getgravconst.{xke}
use Rattle.wgs72.proofs.xke.Goals as goal

pub returns : goal.returns
unfolding xke round units odd size span climb count_trailing_zeros of_bits neg div mul add sub sum sqrt_of root_of units_in near_root isqrt
returns c = refl
