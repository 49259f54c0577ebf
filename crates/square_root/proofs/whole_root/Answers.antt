use Prim.Native.Nat.{ℕ, zero, suc, ◌+◌, ◌-◌, ◌*◌, ◌≤◌, ◌<◌}
use native.Mathlib.Omega.{arith}
use native.Mathlib.Nat.{lt_of_le_of_lt, not-suc-le-zero, zero-lt-suc}
use mir.Facts.{Fits-below}
use Rattle.square_root.proofs.RootLaws.{sq_mono, sq_lt}
use Rattle.square_root.proofs.whole_root.Goals as goal

below : (a s : ℕ) → s * s ≤ a → a < 18014398509481984 → s < 134217728
below a s h l = sq_lt (lt_of_le_of_lt h l)

above : {a : ℕ} (s : ℕ) → a < s * s → 1 ≤ s
above zero h = absurd (not-suc-le-zero h)
above (suc s) h = zero-lt-suc s

pub loop-s-init : goal.loop-s-init
loop-s-init c = c.requires.1

pub overflow_mul-s : goal.overflow_mul-s
overflow_mul-s c = Fits-below {n = 134217728 * 134217728} tt (sq_mono c.loop-s.invariant)

pub overflow_sub-s : goal.overflow_sub-s
overflow_sub-s c = above c.before.loop-s.s c.loop-s-test.true

pub loop-s-smaller : goal.loop-s-smaller
loop-s-smaller c = let h = above c.before.loop-s.s c.loop-s-test.true in omega arith

pub loop-s-preserved : goal.loop-s-preserved
loop-s-preserved c = omega arith

pub loop-s-2-init : goal.loop-s-2-init
loop-s-2-init c =
    let h = c.loop-s-test.false in (h, below c.before.before.args.a c.before.loop-s.s h c.before.before.requires.0)

pub overflow_add-s : goal.overflow_add-s
overflow_add-s c = omega arith

pub overflow_add-s-in-loop-s-2 : goal.overflow_add-s-in-loop-s-2
overflow_add-s-in-loop-s-2 c = omega arith

pub overflow_mul-s-in-loop-s-2 : goal.overflow_mul-s-in-loop-s-2
overflow_mul-s-in-loop-s-2 c = Fits-below {n = 134217728 * 134217728} tt (sq_mono {b = 134217728} (omega arith))

pub overflow_add-s-in-loop-s-2-2 : goal.overflow_add-s-in-loop-s-2-2
overflow_add-s-in-loop-s-2-2 c = omega arith

pub loop-s-2-smaller : goal.loop-s-2-smaller
loop-s-2-smaller c = omega arith

pub loop-s-2-preserved : goal.loop-s-2-preserved
loop-s-2-preserved c =
    let h = c.loop-s-2-test.true in
    (h, below c.before.before.before.before.args.a (c.before.loop-s-2.s + 1) h c.before.before.before.before.requires.0)

pub returns : goal.returns
returns c = (c.before.loop-s-2.invariant.0, c.loop-s-2-test.false)
