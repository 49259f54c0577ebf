use mathlib.Core.Path.{refl}
use lib.Ieee.{round, units, odd, size, span, climb, of_bits, neg}
use lib.Count.{count_trailing_zeros}
use lib.Ieee.{div, mul}
use Rattle.opening.specs.Elements.{xpdotp}
use Rattle.opening.proofs.elements.xpdotp.Goals as goal

pub returns : goal.returns
unfolding xpdotp div mul round units odd size span climb count_trailing_zeros of_bits neg
returns c = refl
