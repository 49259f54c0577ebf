use mathlib.Core.Path.{ap}
use lib.Ieee.{Float, round, units, odd, size, span, climb, of_bits}
use lib.Count.{count_trailing_zeros}
use Rattle.elementary.specs.Notation.{◌⊕◌, dec}
use Rattle.instant.specs.Greenwich.{epoch_days_of}
use Rattle.instant.proofs.days_at.Goals as goal

pub returns : goal.returns
unfolding epoch_days_of round units odd size span climb count_trailing_zeros of_bits
returns c = ap (λ (x : Float). x ⊕ dec 2558 0) c.quotient.ensures
