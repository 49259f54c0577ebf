use Prim.Native.Nat.{◌+◌, ◌*◌}
use native.Mathlib.Omega.{arith}
use lib.Ieee.{of_bits}
use borrow.Author.Rules.{rules}
use Rattle.floats.proofs.Patterns.{H, below_is_number, above_is_number}
use Rattle.cube_root.proofs.candidate.Goals as goal

pub float_from_bits-v : goal.float_from_bits-v
unfolding of_bits
float_from_bits-v c = below_is_number (1022 * H + c.args.m) (omega arith)

pub float_from_bits-w : goal.float_from_bits-w
unfolding of_bits
float_from_bits-w c = below_is_number ((1022 + c.args.r) * H + c.args.m) (omega arith)

pub float_to_bits-result : goal.float_to_bits-result
unfolding of_bits
float_to_bits-result c = above_is_number _ c.if-y.true
