use mathlib.Core.Path.{refl}
use lib.Ieee.{round, units, odd, size, span, climb, of_bits, neg, div, mul, add, sub, sum}
use lib.Count.{count_trailing_zeros}
use Rattle.wgs72.specs.Computed.{qzms2t}
use Rattle.wgs72.proofs.qzms2t.Goals as goal

pub returns : goal.returns
unfolding qzms2t round units odd size span climb count_trailing_zeros of_bits neg div mul add sub sum
returns c = refl
