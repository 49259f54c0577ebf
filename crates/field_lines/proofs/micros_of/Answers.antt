use mathlib.Core.Path.{◌∙◌}
use Rattle.roster.proofs.Epochs.{instant_legal}
use Rattle.field_lines.proofs.micros_of.Goals as goal

pub returns : goal.returns
returns c = c.instant_of.ensures ∙ instant_legal c.args.r c.requires
