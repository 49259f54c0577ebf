use lib.Ieee.{neg}
use Rattle.arctangent.specs.Angle.{placed}
use Rattle.floats.proofs.Literals.{literal}
use Rattle.arctangent.proofs.place.Goals as goal

pub returns-then-y : goal.returns-then-y
unfolding placed literal neg
returns-then-y c = simp (c.before.if-x.true, c.if-y.true)

pub returns-then-x : goal.returns-then-x
unfolding placed literal neg
returns-then-x c = simp (c.before.if-x.true, c.if-y.false)

pub returns-then-y-2 : goal.returns-then-y-2
unfolding placed literal neg
returns-then-y-2 c = simp (c.before.if-x.false, c.if-y-2.true)

pub returns : goal.returns
unfolding placed literal neg
returns c = simp (c.before.if-x.false, c.if-y-2.false)
