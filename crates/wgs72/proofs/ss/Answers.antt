use mathlib.Core.Path.{refl}
use lib.Ieee.{round, units, odd, size, span, climb, of_bits, neg, div, mul, add, sub, sum}
use lib.Count.{count_trailing_zeros}
use Rattle.wgs72.specs.Computed.{ss}
use Rattle.wgs72.proofs.ss.Goals as goal

pub returns : goal.returns
unfolding ss round units odd size span climb count_trailing_zeros of_bits neg div mul add sub sum
returns c = refl
