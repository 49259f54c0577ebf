use mathlib.Core.Path.{sym, ap, ◌∙◌}
use Rattle.satellite_kind.specs.Kind.{method_kind}
use Rattle.satellite_kind.proofs.method_kind.Goals as goal

-- src/lib.rt:33:1
pub returns-in-DeepSpace : goal.returns-in-DeepSpace
returns-in-DeepSpace c = c.resonance_kind.ensures ∙ sym (ap method_kind c.in-DeepSpace.is)
