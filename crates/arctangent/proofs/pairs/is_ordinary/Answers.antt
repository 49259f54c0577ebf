use Rattle.arctangent.specs.Two.{ordinary}
use Rattle.floats.proofs.Literals.{literal}
use Rattle.arctangent.proofs.pairs.is_ordinary.Goals as goal

pub returns : goal.returns
unfolding ordinary literal
returns c = simp (c.is_finite-2.ensures, c.before.is_finite.ensures)
