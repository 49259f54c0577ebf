use lib.ListN.{length}
use mathlib.Core.Path.{sym, ap, ◌∙◌}
use Rattle.tle.proofs.Meaning.{passed_up, gone_on_lem}
use Rattle.opening.specs.Opening.{after_reading, open_pair_of}
use Rattle.answers.specs.Refusals.{refusal_answer}
use Rattle.answers.proofs.Columns.{read_in_bits}
use Rattle.lent_opening.specs.Opening.{open_answer, open_numbers, open_marks}
use Rattle.lent_opening.proofs.open_held.Goals as goal

pub returns-in-Err : goal.returns-in-Err
unfolding open_pair_of after_reading open_answer open_numbers open_marks
returns-in-Err c =
    let r = sym (passed_up _ _ c.read_form.ensures c.in-Err.is) in
    let e = ap after_reading r in
    record { value = c.refusal_answer.ensures ∙ ap refusal_answer (read_in_bits _ _ _ r) ∙ sym (ap (λ z. open_answer z (length c.args.numbers.now) (length c.args.marks.now)) e); numbers_after = sym (ap (λ z. open_numbers z c.args.numbers.now c.args.marks.now) e); marks_after = sym (ap (λ z. open_marks z c.args.numbers.now c.args.marks.now) e) }

pub returns-in-Ok-read_meaning : goal.returns-in-Ok-read_meaning
unfolding open_pair_of after_reading
returns-in-Ok-read_meaning c =
    let r = sym (gone_on_lem _ _ c.read_form.ensures c.in-Ok.is c.read_meaning.ensures) ∙ c.in-Ok-read_meaning.is in
    let e = ap after_reading r in
    record { value = c.open_record.ensures.value ∙ sym (ap (λ z. open_answer z (length c.args.numbers.now) (length c.args.marks.now)) e); numbers_after = c.open_record.ensures.numbers_after ∙ sym (ap (λ z. open_numbers z c.args.numbers.now c.args.marks.now) e); marks_after = c.open_record.ensures.marks_after ∙ sym (ap (λ z. open_marks z c.args.numbers.now c.args.marks.now) e) }

pub returns-in-Err-read_meaning : goal.returns-in-Err-read_meaning
unfolding open_pair_of after_reading open_answer open_numbers open_marks
returns-in-Err-read_meaning c =
    let r = sym (gone_on_lem _ _ c.read_form.ensures c.in-Ok.is c.read_meaning.ensures) ∙ c.in-Err-read_meaning.is in
    let e = ap after_reading r in
    record { value = c.refusal_answer-in-Err-read_meaning.ensures ∙ ap refusal_answer (read_in_bits _ _ _ r) ∙ sym (ap (λ z. open_answer z (length c.args.numbers.now) (length c.args.marks.now)) e); numbers_after = sym (ap (λ z. open_numbers z c.args.numbers.now c.args.marks.now) e); marks_after = sym (ap (λ z. open_marks z c.args.numbers.now c.args.marks.now) e) }
