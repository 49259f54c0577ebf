use mathlib.Core.Path.{ap, ◌∙◌}
use Rattle.satellite_kind.specs.Kind.{opening_kind}
use Rattle.satellite_kind.proofs.kind_of.Goals as goal

-- src/lib.rt:69:1
pub returns : goal.returns
returns c = c.opening_kind.ensures ∙ ap opening_kind c.«open».ensures
