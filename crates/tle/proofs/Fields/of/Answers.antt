use mathlib.Core.Path.{ap}
use mathlib.Core.Bool.{Bool}
use Rattle.tle.proofs.Fields.of.Goals as goal

pub returns : goal.returns
returns c = ap (λ (b : Bool). record { 0 = c.args.r; 1 = b }) c.in_form.ensures
