use Rattle.arctangent.specs.Two.{quarter_of}
use Rattle.floats.proofs.Literals.{literal}
use Rattle.arctangent.proofs.pairs.in_quarter.Goals as goal

pub returns-then-ay-ax : goal.returns-then-ay-ax
unfolding quarter_of literal
returns-then-ay-ax c = simp c.if-ay-ax.true

pub returns-else-ay-ax : goal.returns-else-ay-ax
unfolding quarter_of literal
returns-else-ay-ax c = simp c.if-ay-ax.false
