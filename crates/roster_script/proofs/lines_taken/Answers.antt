use native.Mathlib.Omega.{arith}
use mathlib.Core.Path.{sym}
use Rattle.roster_script.proofs.Scripts.{taken_lodge, taken_withdraw}
use Rattle.roster_script.proofs.lines_taken.Goals as goal

pub returns-then-kind-ne0 : goal.returns-then-kind-ne0
returns-then-kind-ne0 c = let a = c.args in sym (taken_withdraw a.kind a.a a.b c.if-kind-ne0.true)

pub overflow_add-result : goal.overflow_add-result
overflow_add-result c =
    let a = c.args in record { fits = omega (arith, c.requires, taken_lodge a.kind a.a a.b c.if-kind-ne0.false) }

pub returns : goal.returns
returns c = let a = c.args in sym (taken_lodge a.kind a.a a.b c.if-kind-ne0.false)
