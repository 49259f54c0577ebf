use mathlib.Core.Path.{ap, sym, ◌∙◌}
use Rattle.std.specs.Prelude.{Ok, Result}
use Rattle.tle.specs.declared.Refusal.{Refusal}
use Rattle.tle.specs.Read.{formed, fields_of, form_of}
use Rattle.tle.proofs.Judged.{lengths, passed}
use Rattle.tle.proofs.reader.read_form.Goals as goal

pub fields-requires : goal.fields-requires
fields-requires c = lengths _ _ (sym c.judge_pair.ensures ∙ c.in_ok-judge_pair.was)

pub returns-in_err-judge_pair : goal.returns-in_err-judge_pair
unfolding form_of
returns-in_err-judge_pair c =
    let a = c.args in
    passed _ _ c.from_residual.ensures.1
    ∙ ap (λ (v : Result (Unit {0}) Refusal). formed v (fields_of a.line1.now a.line2.now)) (sym c.in_err-judge_pair.was ∙ c.judge_pair.ensures)

pub returns : goal.returns
unfolding form_of
returns c =
    let a = c.args in
    c.yielded.ensures ∙ ap (formed (Ok tt)) c.fields.ensures
    ∙ ap (λ (v : Result (Unit {0}) Refusal). formed v (fields_of a.line1.now a.line2.now)) (sym c.in_ok-judge_pair.was ∙ c.judge_pair.ensures)
