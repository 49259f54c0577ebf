use Rattle.trigonometry.specs.Trig.{sin_of}
use borrow.Author.Rules.{rules}
use Rattle.floats.proofs.Literals.{literal}
use Rattle.trigonometry.proofs.sin.Goals as goal

pub returns : goal.returns
unfolding sin_of literal
returns c = cc
