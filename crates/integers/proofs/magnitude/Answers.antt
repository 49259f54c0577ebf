use mathlib.Core.Path.{◌≡◌, sym, ◌∙◌}
use mathlib.Core.Bool.{true, false}
use native.Mathlib.Omega.{arith}
use mir.Syntax.{w64}
use mir.ValLaws.{to_z-of_z}
use Rattle.integers.proofs.Signed.{back, negative, flipped, positive, small, some}
use Rattle.integers.proofs.magnitude.Goals as goal

-- x is negative in the first arm, and not in the second
neg : (c : goal.Then-x-lt0) → back c.before.args.x ≡ true
neg c = sym (negative _ c.before.ranges.x) ∙ c.if-x-lt0.true

non : (c : goal.Else-x-lt0) → back c.before.args.x ≡ false
non c = sym (negative _ c.before.ranges.x) ∙ c.if-x-lt0.false

pub overflow_cast-result : goal.overflow_cast-result
overflow_cast-result c =
    rw (flipped _ c.before.ranges.x (neg c)) (tt, record { fits = omega (arith, small _ c.before.ranges.x) })

pub overflow_add-result : goal.overflow_add-result
overflow_add-result c =
    rw (flipped _ c.before.ranges.x (neg c)) (record { fits = omega (arith, small _ c.before.ranges.x) })

pub overflow_cast-result-else-x-lt0 : goal.overflow_cast-result-else-x-lt0
overflow_cast-result-else-x-lt0 c =
    rw (to_z-of_z w64 _ c.before.ranges.x) (positive c.before.args.x (non c), record { fits = omega (arith, small _ c.before.ranges.x) })

pub returns-then-x-lt0 : goal.returns-then-x-lt0
returns-then-x-lt0 c = rw (flipped _ c.before.ranges.x (neg c)) (omega (arith, some c.before.args.x (neg c)))

pub returns-else-x-lt0 : goal.returns-else-x-lt0
returns-else-x-lt0 c = rw (to_z-of_z w64 _ c.before.ranges.x)
