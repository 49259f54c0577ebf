use mathlib.Core.Path.{sym, ap, ◌∙◌}
use Rattle.storage.specs.Storage.{method_mark}
use Rattle.storing.proofs.method_mark.Goals as goal

pub returns-in-DeepSpace : goal.returns-in-DeepSpace
returns-in-DeepSpace c = c.resonance_mark.ensures ∙ sym (ap method_mark c.in-DeepSpace.is)
