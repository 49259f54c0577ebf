use mathlib.Core.Path.{ap, ◌∙◌}
use Rattle.lent_pairs.specs.Roster.{withdrawal_answer}
use Rattle.lent_pairs.proofs.Rosters.{plain}
use Rattle.lent_pairs.proofs.withdraw_answer.Goals as goal

pub returns : goal.returns
unfolding withdrawal_answer
returns c =
    record { value = c.withdrawal_number.ensures ∙ plain _ ∙ ap withdrawal_answer c.withdraw.ensures.0; roster_after = c.withdraw.ensures.1; row_after = c.withdraw.ensures.2 }
