use mathlib.Core.Path.{sym, ap, ◌∙◌}
use lib.ListN.{length}
use Rattle.std.specs.Prelude.{Ok, Option, Result, ℕ}
use Rattle.passes.specs.declared.Pass.{Pass}
use Rattle.requests.specs.Lists.{over}
use Rattle.lent_passes.specs.Passes.{pass_answer, pass_instants}
use Rattle.lent_passes.proofs.Posts.{found_fits}
use Rattle.lent_passes.proofs.next_pass_held.Goals as goal

pub put_pass-requires : goal.put_pass-requires
put_pass-requires c =
    found_fits c.args.numbers.now c.args.marks.now c.args.station.now c.args.start c.args.step c.args.samples (length c.args.pass.now) _ (sym c.passing_held.ensures ∙ (c.in-Ok.is ∙ ap Ok c.in-Some.is))

pub returns-in-Some : goal.returns-in-Some
returns-in-Some c =
    let e = sym c.passing_held.ensures ∙ (c.in-Ok.is ∙ ap Ok c.in-Some.is) in
    record { value = c.put_pass.ensures.value ∙ sym (ap pass_answer e); pass_after = c.put_pass.ensures.out_after ∙ sym (ap (λ (x : Result (Option Pass) ℕ). over (pass_instants x) c.args.pass.now) e) }

pub returns-in-None : goal.returns-in-None
unfolding pass_answer pass_instants
returns-in-None c =
    let e = sym c.passing_held.ensures ∙ (c.in-Ok.is ∙ ap Ok c.in-None.is) in
    record { value = c.answer.ensures ∙ sym (ap pass_answer e); pass_after = sym (ap (λ (x : Result (Option Pass) ℕ). over (pass_instants x) c.args.pass.now) e) }

pub returns-in-Err : goal.returns-in-Err
unfolding pass_answer pass_instants
returns-in-Err c =
    let e = sym c.passing_held.ensures ∙ c.in-Err.is in
    record { value = c.answer-in-Err.ensures ∙ sym (ap pass_answer e); pass_after = sym (ap (λ (x : Result (Option Pass) ℕ). over (pass_instants x) c.args.pass.now) e) }
