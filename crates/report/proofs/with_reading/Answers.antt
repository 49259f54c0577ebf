use Rattle.report.specs.State as S
use mathlib.Core.Path.{sym, ap, ◌∙◌}
use Rattle.report.specs.State.{with_reading}
use Rattle.report.proofs.with_reading.Goals as goal

pub returns-in-Ok : goal.returns-in-Ok
unfolding with_reading
returns-in-Ok c =
    let t = c.args.t in
    c.with_kind.ensures ∙ ap (λ x. S.with_kind t x c.stamp_of.result) c.kind_of.ensures ∙ ap (S.with_kind t _) c.stamp_of.ensures
    ∙ sym (ap (S.with_reading t) c.in-Ok.is)

pub returns-in-Err : goal.returns-in-Err
unfolding with_reading
returns-in-Err c =
    c.with_refusal.ensures ∙ ap (S.with_refusal _) c.number.ensures ∙ sym (ap (S.with_reading _) c.in-Err.is)
