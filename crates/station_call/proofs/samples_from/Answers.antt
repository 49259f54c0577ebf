use mathlib.Core.Path.{sym, ap, ◌∙◌}
use mathlib.Core.Bool.{◌&&◌}
use Rattle.floats.proofs.Branch.{yes, no}
use Rattle.std.specs.Prelude.{Option}
use Rattle.instant.specs.declared.Instant.{Instant}
use Rattle.station_call.specs.Call.{sampled_from, samples_from}
use Rattle.station_call.proofs.samples_from.Goals as goal

pub returns-in-Some : goal.returns-in-Some
unfolding samples_from
returns-in-Some c =
    sym (ap (λ (t : Option Instant). sampled_from t c.args.step.value c.args.count.value) c.in-Some.is) ∙ yes (c.args.step.good && c.args.count.good) _ _ c.if-step-count.true

pub returns-in-None : goal.returns-in-None
unfolding samples_from
returns-in-None c =
    sym (ap (λ (t : Option Instant). sampled_from t c.args.step.value c.args.count.value) c.in-None.is) ∙ yes (c.args.step.good && c.args.count.good) _ _ c.if-step-count.true

pub returns : goal.returns
unfolding samples_from
returns c = no (c.args.step.good && c.args.count.good) _ _ c.if-step-count.false
