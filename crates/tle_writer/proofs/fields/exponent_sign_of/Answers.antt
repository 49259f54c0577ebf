use mir.Syntax.{w64}
use mir.ValLaws.{to_z-of_z}
use Rattle.tle_writer.proofs.Signs.{above_sign, other_sign}
use Rattle.tle_writer.proofs.fields.exponent_sign_of.Goals as goal

pub returns-then-x-gt0 : goal.returns-then-x-gt0
returns-then-x-gt0 c = above_sign c.args.x (rw (to_z-of_z w64 _ c.ranges.x) at c.if-x-gt0.true)

pub returns : goal.returns
returns c = other_sign c.args.x (rw (to_z-of_z w64 _ c.ranges.x) at c.if-x-gt0.false)
