use native.Mathlib.Omega.{arith}
use lib.ListN.{length-set}
use Rattle.lent_passes.specs.Looks.{look_answer, look_numbers}
use Rattle.lent_passes.proofs.Posts.{three}
use Rattle.lent_passes.proofs.put_look.Goals as goal

pub returns : goal.returns
unfolding look_answer look_numbers
returns c = record { value = c.answer.ensures; out_after = three c.args.out.now _ _ _ c.requires }

pub bounds-out-1 : goal.bounds-out-1
bounds-out-1 c = simp length-set (omega arith)
