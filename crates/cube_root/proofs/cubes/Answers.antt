use mathlib.Core.Path.{ap, ◌∙◌}
use native.Mathlib.Omega.{arith}
use Rattle.cube_root.specs.Cut.{cut}
use Rattle.cube_root.proofs.CubeLaws.{Sizes, sizes, cube_is, next_cube_is}
use Rattle.cube_root.proofs.cubes.Tie as tie
use Rattle.cube_root.proofs.cubes.Lts as lts
use Rattle.cube_root.proofs.cubes.Reads as reads
use Rattle.cube_root.proofs.cubes.Goals as goal

known : (c : (lts.Start tie.the-claims reads.Pre reads.Post)) → Sizes c.args.z
known c = sizes c.args.z c.requires

pub returns : goal.returns
returns c =
    let z = c.args.z in
    (c.carried-under.ensures ∙ ap cut (cube_is z), c.carried-over.ensures ∙ ap cut (next_cube_is z))

pub overflow_mul-p : goal.overflow_mul-p
overflow_mul-p c = let k = known c in omega arith

pub overflow_mul-q : goal.overflow_mul-q
overflow_mul-q c = let k = known c in omega arith

pub overflow_mul-x0 : goal.overflow_mul-x0
overflow_mul-x0 c = let k = known c in omega arith

pub overflow_mul-x1 : goal.overflow_mul-x1
overflow_mul-x1 c = let k = known c in omega arith

pub overflow_mul-x1-2 : goal.overflow_mul-x1-2
overflow_mul-x1-2 c = let k = known c in omega arith

pub overflow_mul-x1-3 : goal.overflow_mul-x1-3
overflow_mul-x1-3 c = let k = known c in omega arith

pub overflow_add-x1 : goal.overflow_add-x1
overflow_add-x1 c = let k = known c in omega arith

pub overflow_mul-x2 : goal.overflow_mul-x2
overflow_mul-x2 c = let k = known c in omega arith

pub overflow_mul-x2-2 : goal.overflow_mul-x2-2
overflow_mul-x2-2 c = let k = known c in omega arith

pub overflow_add-x2 : goal.overflow_add-x2
overflow_add-x2 c = let k = known c in omega arith

pub overflow_mul-x2-3 : goal.overflow_mul-x2-3
overflow_mul-x2-3 c = let k = known c in omega arith

pub overflow_mul-x3 : goal.overflow_mul-x3
overflow_mul-x3 c = let k = known c in omega arith

pub overflow_mul-x3-2 : goal.overflow_mul-x3-2
overflow_mul-x3-2 c = let k = known c in omega arith

pub overflow_mul-x3-3 : goal.overflow_mul-x3-3
overflow_mul-x3-3 c = let k = known c in omega arith

pub overflow_add-x3 : goal.overflow_add-x3
overflow_add-x3 c = let k = known c in omega arith

pub overflow_mul-x4 : goal.overflow_mul-x4
overflow_mul-x4 c = let k = known c in omega arith

pub carried-under-requires : goal.carried-under-requires
carried-under-requires c = let k = known c in (omega arith, omega arith, omega arith, omega arith, omega arith)

pub overflow_mul-q-2 : goal.overflow_mul-q-2
overflow_mul-q-2 c = let k = known c.before in omega arith

pub overflow_add-x0 : goal.overflow_add-x0
overflow_add-x0 c = let k = known c.before in omega arith

pub overflow_mul-l : goal.overflow_mul-l
overflow_mul-l c = let k = known c.before in omega arith

pub overflow_add-x0-2 : goal.overflow_add-x0-2
overflow_add-x0-2 c = let k = known c.before in omega arith

pub overflow_add-x0-3 : goal.overflow_add-x0-3
overflow_add-x0-3 c = let k = known c.before in omega arith

pub overflow_mul-h : goal.overflow_mul-h
overflow_mul-h c = let k = known c.before in omega arith

pub overflow_add-h : goal.overflow_add-h
overflow_add-h c = let k = known c.before in omega arith

pub overflow_mul-h-2 : goal.overflow_mul-h-2
overflow_mul-h-2 c = let k = known c.before in omega arith

pub overflow_add-x1-2 : goal.overflow_add-x1-2
overflow_add-x1-2 c = let k = known c.before in omega arith

pub overflow_mul-p-2 : goal.overflow_mul-p-2
overflow_mul-p-2 c = let k = known c.before in omega arith

pub overflow_add-x2-2 : goal.overflow_add-x2-2
overflow_add-x2-2 c = let k = known c.before in omega arith

pub carried-over-requires : goal.carried-over-requires
carried-over-requires c = let k = known c.before in (omega arith, omega arith, omega arith, omega arith, omega arith)
