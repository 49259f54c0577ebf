use native.Mathlib.Omega.{arith}
use Rattle.pass_edges.specs.Search.{centre}
use Rattle.pass_edges.proofs.centre.Goals as goal

pub returns : goal.returns
unfolding centre
returns c = simp c.width.ensures

pub overflow_add-result : goal.overflow_add-result
overflow_add-result c = record { fits = omega (arith, c.width.ensures) }
