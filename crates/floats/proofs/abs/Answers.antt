use Rattle.floats.specs.Magnitude.{abs_of}
use Rattle.floats.proofs.Literals.{literal}
use Rattle.floats.proofs.abs.Goals as goal

pub returns-then-x : goal.returns-then-x
unfolding abs_of literal
returns-then-x c = simp c.if-x.true

pub returns-else-x : goal.returns-else-x
unfolding abs_of literal
returns-else-x c = simp c.if-x.false
