use Rattle.arctangent.specs.Two.{tangent}
use Rattle.floats.proofs.Literals.{literal}
use Rattle.arctangent.proofs.pairs.tangent_of.Goals as goal

pub returns-then-ay-ax : goal.returns-then-ay-ax
unfolding tangent literal
returns-then-ay-ax c = simp c.if-ay-ax.true

pub returns-else-ay-ax : goal.returns-else-ay-ax
unfolding tangent literal
returns-else-ay-ax c = simp c.if-ay-ax.false
