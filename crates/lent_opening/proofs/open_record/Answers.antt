use lib.ListN.{length}
use mathlib.Core.Path.{sym, ap, ◌∙◌}
use Rattle.answers.specs.Answer.{answer}
use Rattle.opening.specs.Opening.{opened}
use Rattle.lent_opening.specs.Opening.{open_answer, open_numbers, open_marks}
use Rattle.lent_opening.proofs.open_record.Goals as goal

pub returns-in-Ok : goal.returns-in-Ok
unfolding opened open_answer open_numbers open_marks
returns-in-Ok c =
    let e = ap opened (sym c.«open».ensures ∙ c.in-Ok.is) in
    record { value = c.answer.ensures ∙ ap (λ z. answer z 0 0 0) c.store.ensures.value ∙ sym (ap (λ z. open_answer z (length c.args.numbers.now) (length c.args.marks.now)) e); numbers_after = c.store.ensures.numbers_after ∙ sym (ap (λ z. open_numbers z c.args.numbers.now c.args.marks.now) e); marks_after = c.store.ensures.marks_after ∙ sym (ap (λ z. open_marks z c.args.numbers.now c.args.marks.now) e) }

pub returns-in-Err : goal.returns-in-Err
unfolding opened open_answer open_numbers open_marks
returns-in-Err c =
    let e = ap opened (sym c.«open».ensures ∙ c.in-Err.is) in
    record { value = c.opening_answer.ensures ∙ sym (ap (λ z. open_answer z (length c.args.numbers.now) (length c.args.marks.now)) e); numbers_after = sym (ap (λ z. open_numbers z c.args.numbers.now c.args.marks.now) e); marks_after = sym (ap (λ z. open_marks z c.args.numbers.now c.args.marks.now) e) }
