use mathlib.Core.Path.{sym, ap, ◌∙◌}
use lib.ListN.{length}
use Rattle.std.specs.Prelude.{Option}
use Rattle.instant.specs.declared.Date.{Date}
use Rattle.lent_instants.specs.Instants.{date_answer, date_over}
use Rattle.lent_instants.proofs.date_answer.Goals as goal

pub returns-in-Some : goal.returns-in-Some
returns-in-Some c =
    let p = c.put_date.ensures in
    let out = c.args.out.now in
    let e = sym c.date_of.ensures ∙ c.in-Some.is in
    (p.0 ∙ sym (ap (λ (x : Option Date). date_answer x (length out)) e), p.1 ∙ sym (ap (λ (x : Option Date). date_over x out) e))

pub returns-in-None : goal.returns-in-None
unfolding date_answer date_over
returns-in-None c =
    let out = c.args.out.now in
    let e = sym c.date_of.ensures ∙ c.in-None.is in
    (c.answer.ensures ∙ sym (ap (λ (x : Option Date). date_answer x (length out)) e), sym (ap (λ (x : Option Date). date_over x out) e))
