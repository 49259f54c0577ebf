use lib.ListN.{length}
use mathlib.Core.Path.{sym, ap, ◌∙◌}
use Rattle.answers.specs.Answer.{answer}
use Rattle.answers.specs.Refusals.{refusal_answer, in_bits}
use Rattle.lent_fields.specs.Fields.{form_answer, form_fields}
use Rattle.lent_fields.proofs.Fits.{form_in_bits}
use Rattle.lent_fields.proofs.form_answer.Goals as goal

pub returns-in-Err : goal.returns-in-Err
unfolding form_answer form_fields
returns-in-Err c =
    let fields = c.args.fields.now in
    let e = sym c.read_form.ensures ∙ c.in-Err.is in record {
      value = c.refusal_answer.ensures ∙
          ap refusal_answer (form_in_bits _ _ _ e) ∙ sym (ap (λ z. form_answer z (length fields)) e);
      fields_after = sym (ap (λ z. form_fields z fields) e);
    }

pub returns : goal.returns
unfolding form_answer form_fields
returns c =
    let fields = c.args.fields.now in
    let e = sym c.read_form.ensures ∙ c.in-Ok.is in
    record { value = c.answer.ensures ∙ ap (λ k. answer k 0 0 0) c.store_fields.ensures.value ∙ sym (ap (λ z. form_answer z (length fields)) e); fields_after = c.store_fields.ensures.fields_after ∙ sym (ap (λ z. form_fields z fields) e) }
