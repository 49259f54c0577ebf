use Rattle.arctangent.specs.Angle.{arctan}
use borrow.Author.Rules.{rules}
use Rattle.arctangent.proofs.small_arctan.Goals as goal

pub returns : goal.returns
unfolding arctan
returns c = cc
