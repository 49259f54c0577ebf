use mathlib.Core.Path.{sym, ap, ◌∙◌}
use Rattle.lent_fields.specs.Fields.{cut_answer}
use Rattle.lent_fields.proofs.reading_answer.Goals as goal

pub returns-in-Ok : goal.returns-in-Ok
unfolding cut_answer
returns-in-Ok c = c.answer.ensures ∙ sym (ap cut_answer c.in-Ok.is)

pub returns-in-Err : goal.returns-in-Err
unfolding cut_answer
returns-in-Err c = c.refusal_answer.ensures ∙ sym (ap cut_answer c.in-Err.is)
