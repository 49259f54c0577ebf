use mathlib.Core.Path.{ap, ◌∙◌}
use Rattle.tle.proofs.Judged.{passed}
use Rattle.tle.proofs.Meaning.{passed_up, gone_on_lem}
use Rattle.opening.specs.Opening.{after_reading, open_pair_of}
use Rattle.opening.proofs.opening.open_pair.Goals as goal

pub returns-in_err-fields : goal.returns-in_err-fields
unfolding open_pair_of after_reading
returns-in_err-fields c = passed _ _ c.from_residual.ensures.1 ∙ ap after_reading (passed_up _ _ c.read_form.ensures c.in_err-fields.was)

pub returns : goal.returns
unfolding open_pair_of
returns c =
    c.after_reading.ensures
    ∙ ap after_reading (gone_on_lem _ _ c.read_form.ensures c.in_ok-fields.was c.read_meaning.ensures)
