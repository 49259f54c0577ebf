use Rattle.roster_script.proofs.Scripts.{over_none, over_first, over_second}
use Rattle.roster_script.proofs.exceeds.Goals as goal

pub returns-then-kind-ne0 : goal.returns-then-kind-ne0
returns-then-kind-ne0 c = let a = c.args in over_none a.left a.kind a.a a.b c.if-kind-ne0.true

pub returns-then-left-a : goal.returns-then-left-a
returns-then-left-a c = let a = c.args in over_first a.left a.kind a.a a.b c.if-kind-ne0.false c.if-left-a.true

pub returns : goal.returns
returns c = let a = c.args in over_second a.left a.kind a.a a.b c.if-kind-ne0.false c.if-left-a.false
