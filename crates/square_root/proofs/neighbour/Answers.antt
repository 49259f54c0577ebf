use Prim.Native.Nat.{◌+◌, ◌≤◌, ◌<◌}
use native.Mathlib.Omega.{arith}
use lib.Dec.{T, leb, ltb, ltb→lt, leb→le}
use borrow.Author.Rules.{rules}
use Rattle.square_root.proofs.Moved.{byte_le, moved}
use Rattle.square_root.proofs.neighbour.Goals as goal

apart : (c d v : _) → 1 ≤ c → T (ltb (v + c) d) → T (leb (d + c) v) → ⊥
apart c d v p u w =
    let a : v + c < d = ltb→lt (v + c) d u in
    let b : d + c ≤ v = leb→le (d + c) v w in
    omega arith

pub overflow_add-result : goal.overflow_add-result
overflow_add-result c = let b = byte_le (ltb (c.args.v + c.args.c) c.args.d) in record { fits = omega arith }

pub overflow_sub-result : goal.overflow_sub-result
overflow_sub-result c = let b = byte_le (leb (c.args.d + c.args.c) c.args.v) in omega arith

pub returns : goal.returns
returns c =
    moved (ltb (c.args.v + c.args.c) c.args.d) (leb (c.args.d + c.args.c) c.args.v) c.args.c (apart c.args.c c.args.d c.args.v c.requires.0)
