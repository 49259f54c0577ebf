use mir.Syntax.{w64}
use mir.ValLaws.{to_z-of_z}
use Rattle.tle_writer.proofs.Signs.{minus_sign, plus_sign}
use Rattle.tle_writer.proofs.fields.sign_of.Goals as goal

pub returns-then-x-lt0 : goal.returns-then-x-lt0
returns-then-x-lt0 c = minus_sign c.args.x (rw (to_z-of_z w64 _ c.ranges.x) at c.if-x-lt0.true)

pub returns : goal.returns
returns c = plus_sign c.args.x (rw (to_z-of_z w64 _ c.ranges.x) at c.if-x-lt0.false)
