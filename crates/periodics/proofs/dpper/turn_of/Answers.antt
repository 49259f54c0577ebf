use mathlib.Core.Path.{◌∙◌}
use lib.Ieee.{round, units, odd, size, span, climb, of_bits, neg}
use lib.Count.{count_trailing_zeros}
use Rattle.elementary.proofs.Branch.{yes, no}
use Rattle.periodics.specs.Dpper.{turn_of}
use Rattle.periodics.proofs.dpper.turn_of.Goals as goal

pub returns-then-nodep-xnoh : goal.returns-then-nodep-xnoh
unfolding turn_of round units odd size span climb count_trailing_zeros of_bits neg
returns-then-nodep-xnoh c = yes _ _ _ c.if-nodep-xnoh.true ∙ yes _ _ _ c.if-apart.true

pub returns-then-apart : goal.returns-then-apart
unfolding turn_of round units odd size span climb count_trailing_zeros of_bits neg
returns-then-apart c = no _ _ _ c.if-nodep-xnoh.false ∙ yes _ _ _ c.if-apart.true

pub returns : goal.returns
unfolding turn_of round units odd size span climb count_trailing_zeros of_bits neg
returns c = no _ _ _ c.if-apart.false
