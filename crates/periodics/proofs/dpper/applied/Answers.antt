use mathlib.Core.Path.{◌∙◌}
use lib.Ieee.{round, units, odd, size, span, climb, of_bits, neg}
use lib.Count.{count_trailing_zeros}
use Rattle.elementary.proofs.Branch.{yes, no}
use Rattle.periodics.specs.Dpper.{applied_of}
use Rattle.periodics.proofs.dpper.applied.Goals as goal

pub returns-then-x : goal.returns-then-x
unfolding applied_of round units odd size span climb count_trailing_zeros of_bits neg
returns-then-x c = c.direct.ensures ∙ yes _ _ _ c.if-x.true

pub returns : goal.returns
unfolding applied_of round units odd size span climb count_trailing_zeros of_bits neg
returns c = c.lyddane.ensures ∙ no _ _ _ c.if-x.false
