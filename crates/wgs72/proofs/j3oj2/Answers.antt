use mathlib.Core.Path.{refl}
use lib.Ieee.{round, units, odd, size, span, climb, of_bits, neg, div, mul, add, sub, sum}
use lib.Count.{count_trailing_zeros}
use Rattle.wgs72.specs.Getgravconst.{j3oj2}
use Rattle.wgs72.proofs.j3oj2.Goals as goal

pub returns : goal.returns
unfolding j3oj2 round units odd size span climb count_trailing_zeros of_bits neg div mul add sub sum
returns c = refl
