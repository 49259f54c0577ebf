use native.Mathlib.Omega.{arith}
use mathlib.Core.Path.{◌∙◌}
use Rattle.tle_writer.proofs.Puts.{turn, end}
use Rattle.tle_writer.proofs.fields.put.Goals as goal

pub loop-i-preserved : goal.loop-i-preserved
loop-i-preserved c =
    let l = c.loop-i in l.invariant ∙ rw c.place_of.ensures (turn c.args.z l.i l.m l.out (omega arith) (omega arith))

pub returns : goal.returns
returns c = end _ _ _ _ _ _ c.loop-i-test.false c.loop-i.invariant
