use Rattle.arctangent.specs.Angle.{halved}
use borrow.Author.Rules.{rules}
use Rattle.floats.proofs.Literals.{literal}
use Rattle.arctangent.proofs.halve.Goals as goal

pub returns : goal.returns
unfolding halved literal
returns c = cc
