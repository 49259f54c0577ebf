use Prim.Native.Nat.{◌+◌, ◌-◌, ◌/◌, ◌≤◌, ◌<◌}
use native.Mathlib.Omega.{arith}
use Rattle.cube_root.proofs.CubeLaws.{Under, Over, under_of, over_of, least_under, most_over, between}
use Rattle.cube_root.proofs.near_cube.Reads as reads
use Rattle.cube_root.proofs.near_cube.Lts as lts
use Rattle.cube_root.proofs.near_cube.Goals as goal

pub loop-low-init : goal.loop-low-init
loop-low-init c =
    (omega arith, omega arith, omega arith, least_under c.args.a c.requires.0, most_over c.args.a c.requires.1)

pub overflow_add-low : goal.overflow_add-low
overflow_add-low c = omega arith

pub overflow_add-middle : goal.overflow_add-middle
overflow_add-middle c = omega arith

pub overflow_mul-middle : goal.overflow_mul-middle
overflow_mul-middle c = omega arith

pub overflow_sub-middle : goal.overflow_sub-middle
overflow_sub-middle c = omega arith

pub cubes-z-requires : goal.cubes-z-requires
cubes-z-requires c = omega arith

pub loop-low-smaller-then-z-a : goal.loop-low-smaller-then-z-a
loop-low-smaller-then-z-a c = omega arith

pub loop-low-preserved-then-z-a : goal.loop-low-preserved-then-z-a
loop-low-preserved-then-z-a c =
    let a = c.args.a in
    let l = c.loop-low in
    (omega arith, omega arith, omega arith, under_of a ((l.low + l.high) / 2) c.cubes-z.result.under c.cubes-z.ensures.0 c.if-z-a.true, l.invariant.4)

pub loop-low-smaller : goal.loop-low-smaller
loop-low-smaller c = omega arith

pub loop-low-preserved : goal.loop-low-preserved
loop-low-preserved c =
    let a = c.args.a in
    let l = c.loop-low in
    (omega arith, omega arith, omega arith, l.invariant.3, over_of a ((l.low + l.high) / 2) c.cubes-z.result.under c.cubes-z.ensures.0 c.if-z-a.false)

pub returns : goal.returns
returns c =
    let s = c in
    let l = c.loop-low in
    between s.args.a s.requires.0 s.requires.1 l.low l.high (omega arith) l.invariant.3 l.invariant.4
