use Prim.Native.Nat.{◌≤◌, ◌<◌}
use native.Mathlib.Omega.{arith}
use lib.Dec.{T, leb, ltb, ltb→lt, leb→le}
use borrow.Author.Rules.{rules}
use Rattle.square_root.proofs.Moved.{byte_le, moved}
use Rattle.cube_root.proofs.neighbour.Goals as goal

apart : (a under over : _) → under ≤ over → T (ltb over a) → T (leb a under) → ⊥
apart a under over o u w =
    let x : over < a = ltb→lt over a u in
    let y : a ≤ under = leb→le a under w in
    omega arith

pub overflow_add-result : goal.overflow_add-result
overflow_add-result c = let b = byte_le (ltb c.args.over c.args.a) in record { fits = omega arith }

pub overflow_sub-result : goal.overflow_sub-result
overflow_sub-result c = let b = byte_le (leb c.args.a c.args.under) in omega arith

pub returns : goal.returns
returns c =
    moved (ltb c.args.over c.args.a) (leb c.args.a c.args.under) c.args.c (apart c.args.a c.args.under c.args.over c.requires.2)
