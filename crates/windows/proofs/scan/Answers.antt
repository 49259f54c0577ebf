use Prim.Native.Nat.{◌≤◌}
use native.Mathlib.Nat.{mul-le-mul}
use native.Mathlib.Omega.{arith}
use Rattle.windows.proofs.Scanning.{scan_none, put_room, seen_join, unseen_join, scan_done, done_length}
use Rattle.windows.proofs.scan.Goals as goal
use Rattle.windows.proofs.scan.Goals.{then-sees, else-sees}

pub loop-i-init : goal.loop-i-init
loop-i-init c = scan_none _ _ _ _ _ (omega arith) (omega arith)

pub overflow_mul-t : goal.overflow_mul-t
overflow_mul-t c =
    let h : c.loop-i.i ≤ 1023 = omega arith in
    let g : c.args.step ≤ 86400 = omega arith in
    omega (arith, mul-le-mul h g)

pub overflow_mul-t-in-loop-i : goal.overflow_mul-t-in-loop-i
overflow_mul-t-in-loop-i c =
    let h : c.loop-i.i ≤ 1023 = omega arith in
    let g : c.args.step ≤ 86400 = omega arith in
    omega (arith, mul-le-mul h g)

pub overflow_add-t : goal.overflow_add-t
overflow_add-t c =
    let h : c.loop-i.i ≤ 1023 = omega arith in
    let g : c.args.step ≤ 86400 = omega arith in
    omega (arith, mul-le-mul h g)

pub put-n-requires : goal.put-n-requires
put-n-requires c =
    let f = c.loop-i.invariant in
    let r = put_room _ _ _ _ _ _ _ _ _ _ f in
    record { on_in_bounds = omega (arith, r, f.len_a, f.room_a); on_in_bounds_2 = omega (arith, r, f.len_b, f.room_b); n_bound = omega (arith, f.few, f.upto) }

pub loop-i-preserved : goal.loop-i-preserved
loop-i-preserved c =
    let f = c.loop-i.invariant in
    let t = c.loop-i-test.true in
    elim c.if-sees.branch [
      | then-sees w ↦ seen_join _ _ _ _ _ _ _ _ _ _ f _ _ _ _ _ _ t c.sees.ensures w.if-sees.true w.further-run.ensures w.firsts-is w.lasts-is w.n-is w.run-is
      | else-sees w ↦ unseen_join _ _ _ _ _ _ _ _ _ _ f _ _ _ _ _ _ _ _ t c.sees.ensures w.if-sees.false w.put-n.ensures w.firsts-is w.lasts-is w.n-is w.run-is
    ]

pub put-requires : goal.put-requires
put-requires c =
    let f = c.loop-i.invariant in
    let r = put_room _ _ _ _ _ _ _ _ _ _ f in
    record { on_in_bounds = omega (arith, r, f.len_a, f.room_a); on_in_bounds_2 = omega (arith, r, f.len_b, f.room_b); n_bound = omega (arith, f.few, f.upto) }

pub shape_of-firsts : goal.shape_of-firsts
shape_of-firsts c = (done_length _ _ _ _ _ _ _ _ _ _ c.loop-i.invariant _ _ _ c.put.ensures).0

pub shape_of-lasts : goal.shape_of-lasts
shape_of-lasts c = (done_length _ _ _ _ _ _ _ _ _ _ c.loop-i.invariant _ _ _ c.put.ensures).1

pub returns : goal.returns
returns c = scan_done _ _ _ _ _ _ _ _ _ _ c.loop-i.invariant (omega arith) _ _ _ c.put.ensures
