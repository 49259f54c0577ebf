use Rattle.tle.specs.declared.Line.TheVariants.{One, Two}
use borrow.Author.Tests.{eq-eqb, ne_eqb}
use mathlib.Core.Path.{sym, ◌∙◌}
use Rattle.tle.specs.Read.{pair_of}
use Rattle.tle.proofs.Judged.{goes_on, stops, lawful, passed}
use Rattle.tle.proofs.reader.judge_pair.Goals as goal

pub returns-in_err-judge_line : goal.returns-in_err-judge_line
unfolding pair_of
returns-in_err-judge_line c =
    let e1 = sym c.judge_line.ensures ∙ c.in_err-judge_line.was in
    passed _ _ c.from_residual.ensures.1 ∙ sym (stops _ _ _ e1 ∙ e1)

pub returns-in_err-judge_line-2 : goal.returns-in_err-judge_line-2
unfolding pair_of
returns-in_err-judge_line-2 c =
    let e1 = sym c.judge_line.ensures ∙ c.in_ok-judge_line.was in
    let e2 = sym c.judge_line-2.ensures ∙ c.in_err-judge_line-2.was in
    passed _ _ c.from_residual-in_err-judge_line-2.ensures.1 ∙ sym (goes_on _ _ e1 ∙ stops _ _ _ e2 ∙ e2)

pub number_at-requires : goal.number_at-requires
number_at-requires c = (lawful One _ _ (sym c.judge_line.ensures ∙ c.in_ok-judge_line.was)).0

pub number_at-requires-2 : goal.number_at-requires-2
number_at-requires-2 c = (lawful Two _ _ (sym c.judge_line-2.ensures ∙ c.in_ok-judge_line-2.was)).0

pub returns-then-number_at : goal.returns-then-number_at
unfolding pair_of
returns-then-number_at c =
    let e1 = sym c.judge_line.ensures ∙ c.in_ok-judge_line.was in
    let e2 = sym c.judge_line-2.ensures ∙ c.in_ok-judge_line-2.was in
    sym (goes_on _ _ e1 ∙ goes_on _ _ e2
    ∙ rw (← c.number_at.ensures, ← c.number_at-2.ensures) (simp (ne_eqb _ _ c.if-number_at.true)))

pub returns : goal.returns
unfolding pair_of
returns c =
    let e1 = sym c.judge_line.ensures ∙ c.in_ok-judge_line.was in
    let e2 = sym c.judge_line-2.ensures ∙ c.in_ok-judge_line-2.was in
    sym (goes_on _ _ e1 ∙ goes_on _ _ e2
    ∙ rw (← c.number_at.ensures, ← c.number_at-2.ensures) (simp (eq-eqb _ _ c.if-number_at.false)))
