use mathlib.Core.Path.{sym, ap}
use Rattle.state.specs.Answer.{number}
use Rattle.state.proofs.answer.number.Goals as goal

pub returns-in-MeanMotion : goal.returns-in-MeanMotion
unfolding number
returns-in-MeanMotion c = sym (ap number c.in-MeanMotion.is)

pub returns-in-MeanElements : goal.returns-in-MeanElements
unfolding number
returns-in-MeanElements c = sym (ap number c.in-MeanElements.is)

pub returns-in-Eccentricity : goal.returns-in-Eccentricity
unfolding number
returns-in-Eccentricity c = sym (ap number c.in-Eccentricity.is)

pub returns-in-SemiLatusRectum : goal.returns-in-SemiLatusRectum
unfolding number
returns-in-SemiLatusRectum c = sym (ap number c.in-SemiLatusRectum.is)

pub returns-in-Decayed : goal.returns-in-Decayed
unfolding number
returns-in-Decayed c = sym (ap number c.in-Decayed.is)

pub returns-in-NotFinite : goal.returns-in-NotFinite
unfolding number
returns-in-NotFinite c = sym (ap number c.in-NotFinite.is)
