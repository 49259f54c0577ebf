use mathlib.Core.Path.{sym, ap, ◌∙◌}
use Rattle.tle.proofs.Meaning.{passed_up, gone_on_lem}
use Rattle.lent_pairs.specs.Pairs.{reading_answer}
use Rattle.answers.specs.Refusals.{refusal_answer}
use Rattle.answers.proofs.Columns.{read_in_bits}
use Rattle.lent_pairs.proofs.read_answer.Goals as goal

pub returns-in-Err : goal.returns-in-Err
unfolding reading_answer
returns-in-Err c =
    let e = sym (passed_up _ _ c.read_form.ensures c.in-Err.is) in
    c.refusal_answer.ensures ∙ ap refusal_answer (read_in_bits _ _ _ e) ∙ sym (ap reading_answer e)

pub returns-in-Ok-read_meaning : goal.returns-in-Ok-read_meaning
unfolding reading_answer
returns-in-Ok-read_meaning c =
    let y = gone_on_lem _ _ c.read_form.ensures c.in-Ok.is c.read_meaning.ensures in
    c.answer.ensures ∙ sym (ap reading_answer (sym y ∙ c.in-Ok-read_meaning.is))

pub returns-in-Err-read_meaning : goal.returns-in-Err-read_meaning
unfolding reading_answer
returns-in-Err-read_meaning c =
    let y = gone_on_lem _ _ c.read_form.ensures c.in-Ok.is c.read_meaning.ensures in
    let e = sym y ∙ c.in-Err-read_meaning.is in
    c.refusal_answer-in-Err-read_meaning.ensures ∙ ap refusal_answer (read_in_bits _ _ _ e) ∙ sym (ap reading_answer e)
