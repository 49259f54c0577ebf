use mathlib.Core.Path.{◌∙◌, sym}
use Rattle.resonance.specs.Time.{whole_strides}
use Rattle.resonance.proofs.time.stride_need.Goals as goal

pub returns-then-is_resonant : goal.returns-then-is_resonant
unfolding whole_strides
returns-then-is_resonant c = simp (sym c.is_resonant.ensures ∙ c.if-is_resonant.true, c.distance-x.ensures)

pub returns-else-is_resonant : goal.returns-else-is_resonant
unfolding whole_strides
returns-else-is_resonant c = simp (sym c.is_resonant.ensures ∙ c.if-is_resonant.false)
