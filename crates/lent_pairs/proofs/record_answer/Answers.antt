use lib.ListN.{length}
use mathlib.Core.Path.{sym, ap, ◌∙◌}
use Rattle.tle.proofs.Meaning.{passed_up, gone_on_lem}
use Rattle.answers.specs.Answer.{answer}
use Rattle.answers.specs.Refusals.{refusal_answer}
use Rattle.lent_pairs.specs.Records.{record_answer, record_fields}
use Rattle.answers.proofs.Columns.{read_in_bits}
use Rattle.lent_pairs.proofs.Records.{accepted_refusal, accepted_stored}
use Rattle.lent_pairs.proofs.record_answer.Goals as goal

pub returns-in-Err : goal.returns-in-Err
unfolding record_answer record_fields
returns-in-Err c =
    let fields = c.args.fields.now in
    let e = sym (passed_up _ _ c.read_form.ensures c.in-Err.is) in
    record { value = c.refusal_answer.ensures ∙ ap refusal_answer (read_in_bits _ _ _ e) ∙ sym (ap (λ z. record_answer z (length fields)) e); fields_after = sym (ap (λ z. record_fields z fields) e) }

pub returns-in-Ok-read_meaning : goal.returns-in-Ok-read_meaning
unfolding record_answer record_fields
returns-in-Ok-read_meaning c =
    let k = c.before.before.before.before.before.before.before in
    let fields = c.args.fields.now in
    let e = sym (gone_on_lem _ _ c.read_form.ensures c.in-Ok.is c.read_meaning.ensures) ∙ c.in-Ok-read_meaning.is in
    record { value = c.answer.ensures ∙ ap (λ k. answer k 0 0 0) (c.store_record.ensures.value ∙ accepted_refusal _ _ _ e (length fields)) ∙ sym (ap (λ z. record_answer z (length fields)) e); fields_after = c.store_record.ensures.fields_after ∙ accepted_stored _ _ _ e fields ∙ sym (ap (λ z. record_fields z fields) e) }

pub returns-in-Err-read_meaning : goal.returns-in-Err-read_meaning
unfolding record_answer record_fields
returns-in-Err-read_meaning c =
    let fields = c.args.fields.now in
    let e = sym (gone_on_lem _ _ c.read_form.ensures c.in-Ok.is c.read_meaning.ensures) ∙ c.in-Err-read_meaning.is in
    record { value = c.refusal_answer-in-Err-read_meaning.ensures ∙ ap refusal_answer (read_in_bits _ _ _ e) ∙ sym (ap (λ z. record_answer z (length fields)) e); fields_after = sym (ap (λ z. record_fields z fields) e) }
