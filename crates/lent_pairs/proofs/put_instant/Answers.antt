use mathlib.Core.Path.{sym, ap, ◌∙◌}
use Rattle.lent_pairs.specs.Pairs.{instant_answer, instant_put}
use Rattle.lent_pairs.proofs.put_instant.Goals as goal

pub returns-in-Some : goal.returns-in-Some
unfolding instant_answer instant_put
returns-in-Some c =
    let e = c.in-Some.is in
    record { value = c.answer.ensures ∙ sym (ap instant_answer e); micros_after = sym (ap (λ z. instant_put z c.args.micros.now) e) }

pub returns-in-None : goal.returns-in-None
unfolding instant_answer instant_put
returns-in-None c =
    let e = c.in-None.is in
    record { value = c.answer-in-None.ensures ∙ sym (ap instant_answer e); micros_after = sym (ap (λ z. instant_put z c.args.micros.now) e) }
