use mathlib.Core.Path.{sym, ap, ◌∙◌}
use native.Mathlib.Omega.{arith}
use Rattle.windows.specs.Windows.{refusal_of}
use Rattle.windows.proofs.Calling.{rooms, refused, answered}
use Rattle.windows.proofs.windows.Goals as goal

pub returns-then-refusal-ne0 : goal.returns-then-refusal-ne0
returns-then-refusal-ne0 c =
    refused _ _ _ _ _ _ _ _ c.few_places-short.ensures _ c.call_refusal-refusal.ensures c.if-refusal-ne0.true

pub look-l-requires : goal.look-l-requires
look-l-requires c =
    let a = c.args in
    let r = rooms _ _ _ _ _ (sym (ap (refusal_of a.station a.step.0 a.samples) c.few_places-short.ensures) ∙ sym c.call_refusal-refusal.ensures ∙ c.if-refusal-ne0.false) in
    record {
      epoch_bound = omega (arith, c.near_epoch-opened.ensures);
      step_bound = r.0;
      samples_bound = r.1.0;
      samples_in_bounds = r.1.1.0;
      samples_in_bounds_2 = r.1.1.1;
    }

pub returns : goal.returns
returns c =
    answered _ _ _ _ _ _ _ _ c.few_places-short.ensures _ c.call_refusal-refusal.ensures c.if-refusal-ne0.false _ c.near_epoch-opened.ensures _ _ _ c.look-l.ensures
