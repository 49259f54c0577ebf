use mathlib.Core.Path.{◌≡◌, refl, ◌∙◌}
use Prim.Native.Nat.{◌*◌, ◌%◌, ◌^◌, ◌<◌}
use native.Mathlib.Omega.{arith}
use Rattle.trigonometry.proofs.Turns.{eleven, last, below_turn}
use Rattle.trigonometry.proofs.rem_digits.Goals as goal

pub loop-left-preserved : goal.loop-left-preserved
loop-left-preserved c =
    let l = c.before.loop-left in
    (below_turn (l.r * 2048), eleven l.r l.left (omega arith) ∙ l.invariant.1)

pub returns : goal.returns
returns c = let l = c.before.loop-left in last l.r l.left l.invariant.0 (omega arith) ∙ l.invariant.1

pub loop-left-init : goal.loop-left-init
loop-left-init c = (c.requires, refl)
