use mathlib.Core.Path.{sym, ap, ◌∙◌, subst}
use Rattle.lent_award.specs.Answer.{award_answer, PlaceFits}
use Rattle.lent_award.proofs.award_answer.Goals as goal

pub refused-requires : goal.refused-requires
refused-requires c = subst PlaceFits c.in-Err.is c.requires

pub returns-in-Ok : goal.returns-in-Ok
unfolding award_answer
returns-in-Ok c = c.answer.ensures ∙ sym (ap award_answer c.in-Ok.is)

pub returns-in-Err : goal.returns-in-Err
returns-in-Err c = c.refused.ensures ∙ sym (ap award_answer c.in-Err.is)
