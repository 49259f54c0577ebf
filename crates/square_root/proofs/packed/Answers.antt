use Prim.Native.Nat.{◌+◌, ◌*◌, ◌%◌, ◌≤◌, ◌<◌}
use native.Mathlib.Omega.{arith}
use native.Mathlib.Nat.{mod-lt, zero-lt-suc}
use borrow.Author.Rules.{rules}
use Rattle.square_root.specs.Root.{near_root}
use Rattle.floats.proofs.Patterns.{H}
use Rattle.square_root.proofs.RootLaws.{near_range}
use Rattle.square_root.proofs.RootPatterns.{scaled}
use Rattle.square_root.proofs.packed.Goals as goal

-- what the root is taken of, and the root
inside : (c : goal.Start) → (H ≤ c.args.m * (1 + c.args.k % 2)) × (c.args.m * (1 + c.args.k % 2) ≤ 18014398509481982)
inside c = scaled c.args.m (c.args.k % 2) (mod-lt c.args.k (zero-lt-suc 1)) c.requires.0 c.requires.1

range : (c : goal.Start) → (H ≤ near_root (c.args.m * (1 + c.args.k % 2) * H)) × (near_root (c.args.m * (1 + c.args.k % 2) * H) < 9007199254740992)
range c = near_range (c.args.m * (1 + c.args.k % 2)) (inside c).0 (inside c).1

pub overflow_mul-a : goal.overflow_mul-a
overflow_mul-a c = let z = inside c in omega arith

pub verified-q-requires : goal.verified-q-requires
verified-q-requires c = ((inside c.before).0, (inside c.before).1, c.candidate-c.ensures.0, c.candidate-c.ensures.1)

pub overflow_add-result-2 : goal.overflow_add-result-2
overflow_add-result-2 c = let r = range c.before.before in let e = c.verified-q.ensures in omega arith

pub returns : goal.returns
returns c = let r = range c.before.before in let e = c.verified-q.ensures in record { value = omega arith; upper_bound = omega arith }
