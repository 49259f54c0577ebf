use lib.ListN.{length}
use mathlib.Core.Path.{sym, ap, ◌∙◌}
use Rattle.answers.specs.Answer.{answer}
use Rattle.saddlekerf_profile.specs.Opening.{opened_answer, opened_numbers, opened_marks}
use Rattle.saddlekerf_profile.proofs.lent.open_record.Goals as goal

pub returns-in-Ok : goal.returns-in-Ok
unfolding opened_answer opened_numbers opened_marks
returns-in-Ok c =
    let e = sym c.open_read.ensures ∙ c.in-Ok.is in
    record { value = c.answer.ensures ∙ ap (λ z. answer z 0 0 0) c.store_near.ensures.value ∙ sym (ap (λ z. opened_answer z (length c.args.numbers.now) (length c.args.marks.now)) e); numbers_after = c.store_near.ensures.numbers_after ∙ sym (ap (λ z. opened_numbers z c.args.numbers.now c.args.marks.now) e); marks_after = c.store_near.ensures.marks_after ∙ sym (ap (λ z. opened_marks z c.args.numbers.now c.args.marks.now) e) }

pub returns-in-Err : goal.returns-in-Err
unfolding opened_answer opened_numbers opened_marks
returns-in-Err c =
    let e = sym c.open_read.ensures ∙ c.in-Err.is in
    record { value = c.opening_answer.ensures ∙ sym (ap (λ z. opened_answer z (length c.args.numbers.now) (length c.args.marks.now)) e); numbers_after = sym (ap (λ z. opened_numbers z c.args.numbers.now c.args.marks.now) e); marks_after = sym (ap (λ z. opened_marks z c.args.numbers.now c.args.marks.now) e) }
