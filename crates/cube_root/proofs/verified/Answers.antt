use native.Mathlib.Omega.{arith}
use borrow.Author.Rules.{rules}
use mathlib.Core.Path.{◌∙◌}
use Rattle.cube_root.proofs.CubeLaws.{Fine, fine, check_neighbour}
use Rattle.cube_root.proofs.verified.Tie as tie
use Rattle.cube_root.proofs.verified.Lts as lts
use Rattle.cube_root.proofs.verified.Reads as reads
use Rattle.cube_root.proofs.verified.Goals as goal

known : (c : (lts.After-cubes tie.the-claims reads.Pre reads.Post)) → Fine c.args.c c.cubes-z.result.under c.cubes-z.result.over
known c = fine c.args.c c.cubes-z.result.under c.cubes-z.result.over c.requires.3 c.cubes-z.ensures.0 c.cubes-z.ensures.1

pub returns-then-z-a : goal.returns-then-z-a
returns-then-z-a c =
    let s = c in
    let p = s.requires in
    c.neighbour.ensures
    ∙ check_neighbour s.args.a s.args.c s.cubes-z.result.under s.cubes-z.result.over p.0 p.1 p.2 p.3 s.cubes-z.ensures.0 s.cubes-z.ensures.1
    c.if-a-z.true c.if-z-a.true

pub overflow_mul-g : goal.overflow_mul-g
overflow_mul-g c = let z = known c in omega arith

pub overflow_mul-g-2 : goal.overflow_mul-g-2
overflow_mul-g-2 c = let z = known c in omega arith

pub overflow_add-z : goal.overflow_add-z
overflow_add-z c = let z = known c.before in omega arith

pub overflow_add-z-then-a-z : goal.overflow_add-z-then-a-z
overflow_add-z-then-a-z c = let z = known c.before.before.before in omega arith

pub overflow_add-a : goal.overflow_add-a
overflow_add-a c = let z = known c.before.before.before in omega arith

pub neighbour-requires : goal.neighbour-requires
neighbour-requires c = let z = known c.before.before.before.before in (omega arith, omega arith, omega arith)
