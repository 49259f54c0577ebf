use Rattle.cube_root.specs.Power.{pow15}
use borrow.Author.Rules.{rules}
use Rattle.cube_root.proofs.three_halves.Goals as goal

pub returns : goal.returns
unfolding pow15
returns c = cc
