use mathlib.Core.Path.{ap, ◌∙◌}
use Rattle.elementary.proofs.Branch.{yes_by, no_by}
use Rattle.satellite.specs.declared.Resonance.TheVariants as kinds
use Rattle.resonance_terms.specs.Dsinit.{kind_of}
use Rattle.resonance_terms.proofs.dsinit.kind_of.Goals as goal

pub returns-then-is_half_day : goal.returns-then-is_half_day
unfolding kind_of
returns-then-is_half_day c = ap kinds.HalfDay c.half_day_of.ensures ∙ yes_by _ _ c.is_half_day.ensures c.if-is_half_day.true

pub returns-then-is_one_day : goal.returns-then-is_one_day
unfolding kind_of
returns-then-is_one_day c =
    let b = c in
    ap kinds.OneDay c.one_day_of.ensures
    ∙ yes_by _ _ b.is_one_day.ensures c.if-is_one_day.true
    ∙ no_by _ _ b.is_half_day.ensures b.if-is_half_day.false

pub returns : goal.returns
unfolding kind_of
returns c =
    let b = c in
    no_by _ _ c.is_one_day.ensures c.if-is_one_day.false
    ∙ no_by _ _ b.is_half_day.ensures b.if-is_half_day.false
