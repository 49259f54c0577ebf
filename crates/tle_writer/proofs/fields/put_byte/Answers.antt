use mathlib.Core.Path.{refl}
use native.Mathlib.Omega.{arith}
use Rattle.tle_writer.proofs.Overs.{stored}
use Rattle.tle_writer.proofs.fields.put_byte.Goals as goal

pub returns : goal.returns
returns c = record { is = stored _ _ _ (omega arith); wide = refl }
