use mathlib.Core.Path.{sym, ap, ◌∙◌}
use Rattle.explanation.specs.Explained.{opens, is_well}
use Rattle.explanation.proofs.well.Goals as goal

pub returns-in-Ok : goal.returns-in-Ok
unfolding is_well
returns-in-Ok c = c.opens.ensures ∙ ap opens c.kind_of.ensures ∙ sym (ap is_well c.in-Ok.is)

pub returns-in-Err : goal.returns-in-Err
unfolding is_well
returns-in-Err c = sym (ap is_well c.in-Err.is)
