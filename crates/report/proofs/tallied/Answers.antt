use Rattle.report.specs.State as S
use mathlib.Core.Path.{ap, ◌∙◌}
use Rattle.tle.proofs.Meaning.{passed_up, gone_on_lem}
use Rattle.report.specs.State.{with_reading, tallied}
use Rattle.report.proofs.tallied.Goals as goal

pub returns-in-Err : goal.returns-in-Err
unfolding tallied with_reading
returns-in-Err c =
    c.with_refusal.ensures ∙ ap (S.with_refusal _) c.number.ensures
    ∙ ap (S.with_reading _) (passed_up _ _ c.read_form.ensures c.in-Err.is)

pub returns : goal.returns
unfolding tallied
returns c =
    c.with_reading.ensures
    ∙ ap (S.with_reading _) (gone_on_lem _ _ c.read_form.ensures c.in-Ok.is c.read_meaning.ensures)
