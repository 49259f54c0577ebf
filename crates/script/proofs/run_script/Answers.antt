use mathlib.Core.Path.{sym, subst, ◌∙◌}
use Rattle.std.specs.Prelude.{Err}
use Rattle.script.specs.Script.{ran_of}
use Rattle.tle.proofs.Judged.{passed}
use Rattle.script.proofs.Posts.{NotDone, post_short, post_closed, left_of_lem, post_done}
use Rattle.script.proofs.run_script.Goals as goal

pub returns-then-not-suffices : goal.returns-then-not-suffices
returns-then-not-suffices c =
    let a = c.args in
    post_short a.line1.now a.line2.now a.lengths.now a.times.now a.stations.now a.spans.now a.refusals.now a.states.now a.rounds.now a.firsts.now a.lasts.now a.strides.now a.found.now (sym c.suffices.ensures ∙ c.if-not-suffices.true)

pub returns-in_err-s : goal.returns-in_err-s
unfolding ran_of
returns-in_err-s c =
    let a = c.args in
    let e = passed _ _ c.from_residual.ensures.1 in
    post_closed a.line1.now a.line2.now a.lengths.now a.times.now a.stations.now a.spans.now a.refusals.now a.states.now a.rounds.now a.firsts.now a.lasts.now a.strides.now a.found.now _ (Err _) (subst NotDone (sym e) tt) (sym c.suffices.ensures ∙ c.if-not-suffices.false) (sym c.open_pair.ensures ∙ c.in_err-s.was) e

pub returns : goal.returns
returns c =
    let a = c.args in
    let x = sym c.suffices.ensures ∙ c.if-not-suffices.false in
    post_done a.line1.now a.line2.now a.lengths.now a.times.now a.stations.now a.spans.now a.refusals.now a.states.now a.rounds.now a.firsts.now a.lasts.now a.strides.now a.found.now _ _ _ _ _ _ _ _ x (sym c.open_pair.ensures ∙ c.in_ok-s.was) (left_of_lem a.line1.now a.line2.now a.lengths.now a.times.now a.stations.now a.spans.now a.refusals.now a.states.now a.rounds.now a.firsts.now a.lasts.now a.strides.now a.found.now _ _ _ _ _ _ _ _ _ x c.run_requests.ensures)
