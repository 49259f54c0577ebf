use mathlib.Core.Path.{◌∙◌}
use native.Mathlib.Omega.{arith}
use mir.Syntax.{w64}
use mir.ValLaws.{to_z-of_z}
use Rattle.windows.proofs.Since.{since_is, since_fits}
use Rattle.windows.proofs.time_since.Goals as goal

pub overflow_sub-result : goal.overflow_sub-result
overflow_sub-result c = since_fits c.args.t c.args.epoch (omega arith) (omega arith)

pub returns : goal.returns
returns c = to_z-of_z w64 _ (since_fits c.args.t c.args.epoch (omega arith) (omega arith)) ∙ since_is c.args.t c.args.epoch (omega arith) (omega arith)
