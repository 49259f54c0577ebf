use mathlib.Core.Path.{refl, sym, ◌∙◌, subst}
use native.Mathlib.Omega.{arith}
use mir.Syntax.{w64}
use mir.Val.{SFits}
use mir.ValLaws.{to_z-of_z}
use lib.IntN.{ℤ}
use Rattle.windows.proofs.Since.{difference_fits}
use Rattle.windows.proofs.Timing.{timing_none, timing_more, timing_done, timing_out}
use Rattle.windows.proofs.fill_times.Goals as goal

pub loop-k-init : goal.loop-k-init
loop-k-init c = timing_none _ _ _ _ _ _ refl (omega arith)

pub returns-then-t-ge3155760000000000 : goal.returns-then-t-ge3155760000000000
returns-then-t-ge3155760000000000 c = timing_out _ _ _ _ _ _ _ _ c.loop-k.invariant (omega arith)

pub time_since-requires : goal.time_since-requires
time_since-requires c = record { t_bound = omega arith; epoch_bound = omega arith }

pub loop-k-preserved : goal.loop-k-preserved
loop-k-preserved c =
    let v = c.time_since.ensures in
    timing_more _ _ _ _ _ _ _ _ c.loop-k.invariant c.loop-k-test.true (omega arith) _
    (to_z-of_z w64 _ (subst (λ (z : ℤ). SFits w64 z) (sym v) (difference_fits _ _ (omega arith) (omega arith))) ∙ v)

pub returns : goal.returns
returns c = timing_done _ _ _ _ _ _ _ _ c.loop-k.invariant c.loop-k-test.false

pub shape_of-times-then-t-ge3155760000000000 : goal.shape_of-times-then-t-ge3155760000000000
shape_of-times-then-t-ge3155760000000000 c = c.loop-k.invariant.room

pub shape_of-times : goal.shape_of-times
shape_of-times c = c.loop-k.invariant.room
