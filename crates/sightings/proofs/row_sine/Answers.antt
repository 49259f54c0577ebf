use mathlib.Core.Path.{◌∙◌}
use lib.Ieee.{round, units, odd, size, span, climb, of_bits, neg}
use lib.Count.{count_trailing_zeros}
use Rattle.sightings.specs.Sightings.{row_sine}
use Rattle.sightings.proofs.Views.{row_refused, row_answered}
use Rattle.sightings.proofs.row_sine.Goals as goal

pub returns-then-row-ne0 : goal.returns-then-row-ne0
unfolding row_sine round units odd size span climb count_trailing_zeros of_bits neg
returns-then-row-ne0 c = row_refused _ _ _ c.if-row-ne0.true

pub returns : goal.returns
unfolding row_sine
returns c = c.sine.ensures ∙ row_answered _ _ _ c.if-row-ne0.false
