use mathlib.Core.Path.{◌≡◌}
use Prim.Native.Nat.{◌*◌, ◌/◌, ◌≤◌}
use native.Mathlib.Nat.{div-le_self}
use native.Mathlib.Omega.{arith}
use borrow.Author.Rules.{rules}
use Rattle.decimals.proofs.Near.{B, low, low_most, high_most, middle, middle_most, rest_lt, part_below, part_above, part_more, part_half}
use Rattle.decimals.proofs.nearest_part.Tie as tie
use Rattle.decimals.proofs.nearest_part.Lts as lts
use Rattle.decimals.proofs.nearest_part.Reads as reads
use Rattle.decimals.proofs.nearest_part.Goals as goal

low-is : (c : (lts.Start reads.Pre reads.Post tie.handed_clauses)) → low c.args.part c.args.ten ≤ 4294967295000000000
low-is c = low_most c.args.part c.args.ten c.requires.0 c.requires.3

high_is : (c : (lts.Start reads.Pre reads.Post tie.handed_clauses)) → c.args.part / B * c.args.ten ≤ 2097151000000000
high_is c = high_most c.args.part c.args.ten c.requires.0 c.requires.3

few : (c : (lts.Start reads.Pre reads.Post tie.handed_clauses)) → middle c.args.part c.args.ten / c.args.down ≤ 2097152000000000
few c = let m = middle_most c.args.part c.args.ten c.requires.0 c.requires.3 in omega (arith, div-le_self (middle c.args.part c.args.ten) c.args.down)

pub overflow_mul-rest : goal.overflow_mul-rest
overflow_mul-rest c = let h = rest_lt c.args.part c.args.ten c.args.down c.requires.1 in omega arith

pub returns-then-rest-down : goal.returns-then-rest-down
returns-then-rest-down c =
    let s = c.before in record { value = part_below s.args.part s.args.ten s.args.down s.requires.1 c.if-rest-down.true; upper_bound = omega (arith, few s) }

pub returns-then-rest-down-2 : goal.returns-then-rest-down-2
returns-then-rest-down-2 c =
    let s = c.before.before in record { value = part_above s.args.part s.args.ten s.args.down s.requires.1 c.if-rest-down-2.true; upper_bound = omega (arith, few s) }

pub returns-then-more-gt0 : goal.returns-then-more-gt0
returns-then-more-gt0 c =
    let s = c.before.before.before in
    record { value = part_more s.args.part s.args.ten s.args.down s.requires.1 (omega (arith, c.if-rest-down.false, c.if-rest-down-2.false)) c.if-more-gt0.true; upper_bound = omega (arith, few s) }

pub returns : goal.returns
returns c =
    let s = c.before.before.before in
    record { value = part_half s.args.part s.args.ten s.args.down s.requires.1 (omega (arith, c.if-rest-down.false, c.if-rest-down-2.false)) (omega (arith, c.if-more-gt0.false)); upper_bound = omega (arith, few s) }

pub overflow_mul-low : goal.overflow_mul-low
overflow_mul-low c = omega (arith, low-is c)

pub overflow_mul-middle : goal.overflow_mul-middle
overflow_mul-middle c = omega (arith, high_is c)

pub overflow_add-middle : goal.overflow_add-middle
overflow_add-middle c = omega (arith, low-is c, high_is c)

pub overflow_add-rest : goal.overflow_add-rest
overflow_add-rest c = let h = rest_lt c.args.part c.args.ten c.args.down c.requires.1 in omega arith

pub overflow_add-result : goal.overflow_add-result
overflow_add-result c = omega (arith, few c.before.before)

pub overflow_add-result-then-more-gt0 : goal.overflow_add-result-then-more-gt0
overflow_add-result-then-more-gt0 c = omega (arith, few c.before.before.before)

pub overflow_add-result-2 : goal.overflow_add-result-2
overflow_add-result-2 c = omega (arith, few c.before.before.before)
