use mathlib.Core.Path.{ap, ◌∙◌}
use Rattle.tle.proofs.Meaning.{passed_up, gone_on_lem}
use Rattle.explanation.specs.Explained.{is_well}
use Rattle.explanation.proofs.is_well.Goals as goal

pub returns-in-Err : goal.returns-in-Err
returns-in-Err c =
    c.well.ensures ∙ ap is_well (passed_up _ _ c.read_form.ensures c.in-Err.is)

pub returns : goal.returns
returns c =
    c.well-2.ensures ∙ ap is_well (gone_on_lem _ _ c.read_form.ensures c.in-Ok.is c.read_meaning.ensures)
