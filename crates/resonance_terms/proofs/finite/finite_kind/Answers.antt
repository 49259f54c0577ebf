use mathlib.Core.Path.{◌∙◌, ap, sym}
use Rattle.resonance_terms.specs.Finite.{finite_kind}
use Rattle.resonance_terms.proofs.finite.finite_kind.Goals as goal

pub returns-in-None : goal.returns-in-None
unfolding finite_kind
returns-in-None c = sym (ap finite_kind c.in-None.is)

pub returns-in-OneDay : goal.returns-in-OneDay
unfolding finite_kind
returns-in-OneDay c = c.finite_one_day.ensures ∙ sym (ap finite_kind c.in-OneDay.is)

pub returns-in-HalfDay : goal.returns-in-HalfDay
unfolding finite_kind
returns-in-HalfDay c = c.finite_half_day.ensures ∙ sym (ap finite_kind c.in-HalfDay.is)
