use mathlib.Core.Path.{sym, ap, ◌∙◌}
use Rattle.satellite_kind.specs.Kind.{opening_kind}
use Rattle.satellite_kind.proofs.opening_kind.Goals as goal

-- src/lib.rt:56:1
pub returns-in-Ok : goal.returns-in-Ok
returns-in-Ok c = c.method_kind.ensures ∙ sym (ap opening_kind c.in-Ok.is)
