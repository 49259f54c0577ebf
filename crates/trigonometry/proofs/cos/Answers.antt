use Rattle.trigonometry.specs.Trig.{cos_of}
use borrow.Author.Rules.{rules}
use Rattle.floats.proofs.Literals.{literal}
use Rattle.trigonometry.proofs.cos.Goals as goal

pub returns : goal.returns
unfolding cos_of literal
returns c = cc
