use Rattle.cube_root.specs.Power.{pow23}
use borrow.Author.Rules.{rules}
use Rattle.cube_root.proofs.two_thirds.Goals as goal

pub returns : goal.returns
unfolding pow23
returns c = cc
