use lib.Ieee.{round, units, odd, size, span, climb, of_bits, neg}
use lib.Count.{count_trailing_zeros}
use Rattle.sgp4.specs.DeepSpace.{no_ellipse}
use mathlib.Core.Path.{refl}
use Rattle.sgp4.proofs.deep_space.no_ellipse.Goals as goal

pub returns : goal.returns
unfolding no_ellipse round units odd size span climb count_trailing_zeros of_bits neg
returns c = refl
