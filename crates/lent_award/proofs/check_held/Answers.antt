use mathlib.Core.Path.{ap, ◌∙◌}
use Rattle.lent_award.specs.Answer.{award_answer}
use Rattle.lent_award.proofs.Fits.{place_fits}
use Rattle.lent_award.proofs.check_held.Goals as goal

pub award_answer-requires : goal.award_answer-requires
award_answer-requires c =
    let a = c.args in place_fits a.offers.now a.entries.now a.total a.turnaround c.check_plan-checked.result c.check_plan-checked.ensures

pub returns : goal.returns
returns c = c.award_answer.ensures ∙ ap award_answer c.check_plan-checked.ensures
