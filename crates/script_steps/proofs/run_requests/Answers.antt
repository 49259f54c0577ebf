use mathlib.Core.Path.{sym, ◌∙◌}
use Rattle.script_steps.proofs.Enough.{runs_short, runs_done, enough}
use Rattle.script_steps.proofs.run_requests.Goals as goal

pub returns-then-not-suffices : goal.returns-then-not-suffices
returns-then-not-suffices c =
    let a = c.args in
    runs_short a.lengths.now a.times.now a.stations.now a.spans.now a.refusals.now a.states.now a.rounds.now a.firsts.now a.lasts.now a.strides.now a.found.now _ (sym c.suffices.ensures ∙ c.if-not-suffices.true)

pub run_all-requires : goal.run_all-requires
run_all-requires c =
    let a = c.args in
    let r = enough a.lengths.now a.times.now a.stations.now a.spans.now a.refusals.now a.states.now a.rounds.now a.firsts.now a.lasts.now a.strides.now a.found.now (sym c.suffices.ensures ∙ c.if-not-suffices.false) in
    record {
      lengths_in_bounds = r.0;
      refusals_value = r.1.0;
      states_value = r.1.1.0;
      rounds_value = r.1.1.1.0;
      lengths_in_bounds_2 = r.1.1.1.1.0;
      lengths_in_bounds_3 = r.1.1.1.1.1.0;
      lengths_in_bounds_4 = r.1.1.1.1.1.1.0;
      lengths_in_bounds_5 = r.1.1.1.1.1.1.1;
    }

pub returns : goal.returns
returns c =
    let a = c.args in
    runs_done a.lengths.now a.times.now a.stations.now a.spans.now a.refusals.now a.states.now a.rounds.now a.firsts.now a.lasts.now a.strides.now a.found.now _ _ _ _ _ _ _ _ (sym c.suffices.ensures ∙ c.if-not-suffices.false) c.run_all.ensures

pub shape_of-refusals : goal.shape_of-refusals
shape_of-refusals c = c.run_all.auto.refusals

pub shape_of-states : goal.shape_of-states
shape_of-states c = c.run_all.auto.states

pub shape_of-rounds : goal.shape_of-rounds
shape_of-rounds c = c.run_all.auto.rounds

pub shape_of-firsts : goal.shape_of-firsts
shape_of-firsts c = c.run_all.auto.firsts

pub shape_of-lasts : goal.shape_of-lasts
shape_of-lasts c = c.run_all.auto.lasts

pub shape_of-strides : goal.shape_of-strides
shape_of-strides c = c.run_all.auto.strides

pub shape_of-found : goal.shape_of-found
shape_of-found c = c.run_all.auto.found
