use native.Mathlib.Omega.{arith}
use borrow.Author.Rules.{rules}
use Rattle.square_root.proofs.RootLaws.{Whole, Sizes, sizes, one_up, same, one_down}
use Rattle.square_root.proofs.near_root.Goals as goal

whole : (c : goal.After-whole_root-s) → Whole c.before.args.a c.whole_root-s.result
whole c = record { lo = c.before.requires.0; hi = c.before.requires.1; low = c.whole_root-s.ensures.0; high = c.whole_root-s.ensures.1 }

known : (c : goal.After-whole_root-s) → Sizes c.before.args.a c.whole_root-s.result
known c = sizes c.before.args.a c.whole_root-s.result (whole c)

pub overflow_mul-r-2 : goal.overflow_mul-r-2
overflow_mul-r-2 c = let z = known c in omega arith

pub overflow_mul-d : goal.overflow_mul-d
overflow_mul-d c = let z = known c in omega arith

pub nonzero_div-t : goal.nonzero_div-t
nonzero_div-t c = let z = known c in omega arith

pub nonzero_rem-u : goal.nonzero_rem-u
nonzero_rem-u c = let z = known c in omega arith

pub overflow_mul-u : goal.overflow_mul-u
overflow_mul-u c = let z = known c in omega arith

pub overflow_mul-c : goal.overflow_mul-c
overflow_mul-c c = let z = known c in omega arith

pub overflow_add-c : goal.overflow_add-c
overflow_add-c c = let z = known c in omega arith

pub overflow_mul-v : goal.overflow_mul-v
overflow_mul-v c = let z = known c in omega arith

pub overflow_add-v : goal.overflow_add-v
overflow_add-v c = let z = known c in omega arith

pub overflow_add-result : goal.overflow_add-result
overflow_add-result c = let z = known c.before in omega arith

pub returns-then-u-v : goal.returns-then-u-v
returns-then-u-v c = one_up c.before.before.args.a c.before.whole_root-s.result (whole c.before) c.if-u-v.true

pub overflow_add-u : goal.overflow_add-u
overflow_add-u c = let z = known c.before in omega arith

pub returns-then-u-c : goal.returns-then-u-c
returns-then-u-c c = same c.before.before.before.args.a c.before.before.whole_root-s.result (whole c.before.before) c.before.if-u-v.false c.if-u-c.true

pub overflow_sub-result : goal.overflow_sub-result
overflow_sub-result c = let z = known c.before.before in omega arith

pub returns : goal.returns
returns c = one_down c.before.before.before.args.a c.before.before.whole_root-s.result (whole c.before.before) c.if-u-c.false
