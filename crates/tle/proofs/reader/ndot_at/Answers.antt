use native.Mathlib.Omega.{arith}
use Rattle.tle.specs.Read.{ndot_at}
use Rattle.tle.proofs.WithSign.{held}
use Rattle.tle.proofs.reader.ndot_at.Goals as goal

pub returns : goal.returns
unfolding ndot_at
returns c = rw (← c.field_at.ensures.0) (held _ _ c.with_sign.ensures (omega arith))
