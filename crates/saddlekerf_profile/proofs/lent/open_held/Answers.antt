use lib.ListN.{length}
use mathlib.Core.Path.{sym, ap, ◌∙◌}
use Rattle.tle.proofs.Meaning.{passed_up, gone_on_lem}
use Rattle.tle.proofs.Accepted.{accepted_are_legal}
use Rattle.answers.specs.Refusals.{refusal_answer}
use Rattle.answers.proofs.Columns.{read_in_bits}
use Rattle.profile.proofs.Narrow.{read_opens}
use Rattle.saddlekerf_profile.specs.Opening.{opened_answer, opened_numbers, opened_marks, open_answer, open_numbers, open_marks}
use Rattle.saddlekerf_profile.proofs.lent.open_held.Goals as goal

pub returns-in-Err : goal.returns-in-Err
unfolding open_answer open_numbers open_marks
returns-in-Err c =
    let e = sym (passed_up _ _ c.read_form.ensures c.in-Err.is) in
    record { value = c.refusal_answer.ensures ∙ ap refusal_answer (read_in_bits _ _ _ e) ∙ sym (ap (λ z. open_answer z (length c.args.numbers.now) (length c.args.marks.now)) e); numbers_after = sym (ap (λ z. open_numbers z c.args.numbers.now c.args.marks.now) e); marks_after = sym (ap (λ z. open_marks z c.args.numbers.now c.args.marks.now) e) }

pub returns-in-Ok-read_meaning : goal.returns-in-Ok-read_meaning
unfolding open_answer open_numbers open_marks
returns-in-Ok-read_meaning c =
    let e = sym (gone_on_lem _ _ c.read_form.ensures c.in-Ok.is c.read_meaning.ensures) ∙ c.in-Ok-read_meaning.is in
    let o = read_opens _ (accepted_are_legal _ _ _ e) in
    record { value = c.open_record.ensures.value ∙ ap (λ z. opened_answer z (length c.args.numbers.now) (length c.args.marks.now)) o ∙ sym (ap (λ z. open_answer z (length c.args.numbers.now) (length c.args.marks.now)) e); numbers_after = c.open_record.ensures.numbers_after ∙ ap (λ z. opened_numbers z c.args.numbers.now c.args.marks.now) o ∙ sym (ap (λ z. open_numbers z c.args.numbers.now c.args.marks.now) e); marks_after = c.open_record.ensures.marks_after ∙ ap (λ z. opened_marks z c.args.numbers.now c.args.marks.now) o ∙ sym (ap (λ z. open_marks z c.args.numbers.now c.args.marks.now) e) }

pub returns-in-Err-read_meaning : goal.returns-in-Err-read_meaning
unfolding open_answer open_numbers open_marks
returns-in-Err-read_meaning c =
    let e = sym (gone_on_lem _ _ c.read_form.ensures c.in-Ok.is c.read_meaning.ensures) ∙ c.in-Err-read_meaning.is in
    record { value = c.refusal_answer-in-Err-read_meaning.ensures ∙ ap refusal_answer (read_in_bits _ _ _ e) ∙ sym (ap (λ z. open_answer z (length c.args.numbers.now) (length c.args.marks.now)) e); numbers_after = sym (ap (λ z. open_numbers z c.args.numbers.now c.args.marks.now) e); marks_after = sym (ap (λ z. open_marks z c.args.numbers.now c.args.marks.now) e) }
