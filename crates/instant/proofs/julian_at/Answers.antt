use mathlib.Core.Path.{ap}
use lib.Ieee.{Float, round, units, odd, size, span, climb, of_bits}
use lib.Count.{count_trailing_zeros}
use Rattle.elementary.specs.Notation.{◌⊕◌, dec}
use Rattle.instant.specs.Greenwich.{julian_of}
use Rattle.instant.proofs.julian_at.Goals as goal

pub returns : goal.returns
unfolding julian_of round units odd size span climb count_trailing_zeros of_bits
returns c = ap (λ (x : Float). x ⊕ dec 24332815 1) c.days_at.ensures
