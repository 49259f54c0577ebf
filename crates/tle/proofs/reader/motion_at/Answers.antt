use Rattle.tle.specs.Read.{motion_at}
use Rattle.tle.proofs.reader.motion_at.Goals as goal

pub returns : goal.returns
unfolding motion_at
returns c = rw (c.field_at-2.ensures.0, c.field_at.ensures.0)
