use native.Mathlib.Omega.{arith}
use borrow.Author.Rules.{rules}
use Rattle.cube_root.specs.Cut.{cut}
use Rattle.cube_root.proofs.CubeLaws.{carries}
use Rattle.cube_root.proofs.carried.Goals as goal

pub returns : goal.returns
unfolding cut
returns c = omega arith

pub overflow_add-result : goal.overflow_add-result
overflow_add-result c = let k = carries c.args.x0 c.args.x1 c.args.x2 c.requires.0 c.requires.1 c.requires.2 in omega arith

pub overflow_add-result-2 : goal.overflow_add-result-2
overflow_add-result-2 c = let k = carries c.args.x0 c.args.x1 c.args.x2 c.requires.0 c.requires.1 c.requires.2 in omega arith
