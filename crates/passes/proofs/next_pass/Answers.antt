use native.Mathlib.Omega.{arith}
use mathlib.Core.Path.{sym, ◌∙◌}
use Rattle.passes.proofs.Steps.{short_step}
use Rattle.passes.proofs.Whole.{pass_refused, pass_searched}
use Rattle.passes.proofs.next_pass.Goals as goal

pub returns-then-refusal-ne0 : goal.returns-then-refusal-ne0
returns-then-refusal-ne0 c = pass_refused _ _ _ _ _ _ _ c.pass_refusal-refusal.ensures c.if-refusal-ne0.true

pub overflow_mul-step : goal.overflow_mul-step
overflow_mul-step c =
    let h = short_step _ _ _ (sym c.pass_refusal-refusal.ensures ∙ c.if-refusal-ne0.false) in
    record { fits = omega (arith, h) }

pub search-requires : goal.search-requires
search-requires c =
    let h = short_step _ _ _ (sym c.pass_refusal-refusal.ensures ∙ c.if-refusal-ne0.false) in
    omega (arith, h)

pub returns : goal.returns
returns c =
    pass_searched _ _ _ _ _ _ _ c.pass_refusal-refusal.ensures _ _ _ _ c.if-refusal-ne0.false c.site_of-site.ensures c.to_radians.ensures c.sin-sine.ensures
    c.search.ensures
