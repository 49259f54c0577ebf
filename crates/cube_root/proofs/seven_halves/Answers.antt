use Rattle.cube_root.specs.Power.{pow35}
use borrow.Author.Rules.{rules}
use Rattle.cube_root.proofs.seven_halves.Goals as goal

pub returns : goal.returns
unfolding pow35
returns c = cc
