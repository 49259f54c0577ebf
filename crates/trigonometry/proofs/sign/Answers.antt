use lib.Ieee.{neg}
use Rattle.trigonometry.specs.Trig.{signed}
use Rattle.floats.proofs.Literals.{literal}
use Rattle.trigonometry.proofs.sign.Goals as goal

pub returns-then-r : goal.returns-then-r
unfolding signed literal neg
returns-then-r c = simp c.if-r.true

pub returns-then-r-2 : goal.returns-then-r-2
unfolding signed literal neg
returns-then-r-2 c = simp (c.before.if-r.false, c.if-r-2.true)

pub returns : goal.returns
unfolding signed literal neg
returns c = simp (c.before.if-r.false, c.if-r-2.false)
