use mathlib.Core.Path.{sym, ap, ◌∙◌}
use Rattle.tle.proofs.Meaning.{passed_up, gone_on_lem}
use Rattle.answers.specs.Refusals.{refusal_answer}
use Rattle.lent_pairs.specs.Pairs.{instant_answer, instant_put, epoch_answer, epoch_put}
use Rattle.answers.proofs.Columns.{read_in_bits}
use Rattle.lent_pairs.proofs.epoch_answer.Goals as goal

pub returns-in-Err : goal.returns-in-Err
unfolding epoch_answer epoch_put
returns-in-Err c =
    let old = c.args.micros.now in
    let e = sym (passed_up _ _ c.read_form.ensures c.in-Err.is) in
    record { value = c.refusal_answer.ensures ∙ ap refusal_answer (read_in_bits _ _ _ e) ∙ sym (ap epoch_answer e); micros_after = sym (ap (λ z. epoch_put z old) e) }

pub returns-in-Ok-read_meaning : goal.returns-in-Ok-read_meaning
unfolding epoch_answer epoch_put
returns-in-Ok-read_meaning c =
    let e = sym (gone_on_lem _ _ c.read_form.ensures c.in-Ok.is c.read_meaning.ensures) ∙ c.in-Ok-read_meaning.is in
    let old = c.args.micros.now in
    record { value = c.put_instant.ensures.value ∙ ap instant_answer c.epoch.ensures ∙ sym (ap epoch_answer e); micros_after = c.put_instant.ensures.micros_after ∙ ap (λ z. instant_put z old) c.epoch.ensures ∙ sym (ap (λ z. epoch_put z old) e) }

pub returns-in-Err-read_meaning : goal.returns-in-Err-read_meaning
unfolding epoch_answer epoch_put
returns-in-Err-read_meaning c =
    let old = c.args.micros.now in
    let e = sym (gone_on_lem _ _ c.read_form.ensures c.in-Ok.is c.read_meaning.ensures) ∙ c.in-Err-read_meaning.is in
    record { value = c.refusal_answer-in-Err-read_meaning.ensures ∙ ap refusal_answer (read_in_bits _ _ _ e) ∙ sym (ap epoch_answer e); micros_after = sym (ap (λ z. epoch_put z old) e) }
