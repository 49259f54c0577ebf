use mir.Syntax.{w64}
use mir.ValLaws.{to_z-of_z}
use Rattle.record_numbers.proofs.Signed.{below, above}
use Rattle.record_numbers.proofs.whole.Goals as goal

pub returns-then-x-lt0 : goal.returns-then-x-lt0
returns-then-x-lt0 c = below c.args.x (rw (to_z-of_z w64 _ c.ranges.x) at c.if-x-lt0.true)

pub returns : goal.returns
returns c =
    rw (to_z-of_z w64 _ c.ranges.x) (above c.args.x (rw (to_z-of_z w64 _ c.ranges.x) at c.if-x-lt0.false))
