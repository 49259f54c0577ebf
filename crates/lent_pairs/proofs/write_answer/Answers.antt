use mathlib.Core.Path.{sym, ap, ◌∙◌}
use Rattle.lent_pairs.specs.Records.{line_answer, write_answer, write_out}
use Rattle.lent_pairs.proofs.write_answer.Goals as goal

pub returns-in-Ok : goal.returns-in-Ok
unfolding write_answer write_out
returns-in-Ok c =
    let a = c.args in
    let e = sym c.record_of.ensures ∙ c.in-Ok.is in
    record { value = c.line_answer.ensures ∙ ap line_answer c.put_line.ensures.value ∙ sym (ap (λ z. write_answer z a.line a.out.now) e); out_after = c.put_line.ensures.out_after ∙ sym (ap (λ z. write_out z a.line a.out.now) e) }
