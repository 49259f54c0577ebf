use native.Mathlib.Omega.{arith}
use borrow.Author.Rules.{rules}
use mathlib.Core.Path.{◌∙◌}
use Rattle.square_root.proofs.RootLaws.{Halves, halves, check_neighbour}
use Rattle.square_root.proofs.verified.Goals as goal

known : (c : goal.Start) → Halves c.args.c
known c = halves c.args.c c.requires.3

pub returns-then-v-d : goal.returns-then-v-d
returns-then-v-d c =
    let s = c.before.before.before.before.before.before.before in
    c.neighbour.ensures
    ∙ check_neighbour s.args.a s.args.c s.requires.0 s.requires.1 c.before.before.before.before.before.before.if-p-a.true
    c.before.before.before.before.if-y-x.true (omega arith) c.before.before.if-d-v.true c.before.if-v-d.true

pub overflow_mul-p : goal.overflow_mul-p
overflow_mul-p c = let z = known c in omega arith

pub overflow_mul-y-then-w-lt1073741824 : goal.overflow_mul-y-then-w-lt1073741824
overflow_mul-y-then-w-lt1073741824 c = let z = known c.before.before in omega arith

pub overflow_mul-v : goal.overflow_mul-v
overflow_mul-v c = let z = known c.before.before.before.before in omega arith

pub overflow_add-v : goal.overflow_add-v
overflow_add-v c = let z = known c.before.before.before.before in omega arith

pub overflow_add-v-then-u-lt536870912 : goal.overflow_add-v-then-u-lt536870912
overflow_add-v-then-u-lt536870912 c = let z = known c.before.before.before.before in omega arith

pub overflow_add-v-then-d-v : goal.overflow_add-v-then-d-v
overflow_add-v-then-d-v c = let z = known c.before.before.before.before.before in omega arith

pub neighbour-requires : goal.neighbour-requires
neighbour-requires c = let z = known c.before.before.before.before.before.before in (omega arith, omega arith, omega arith, omega arith)
