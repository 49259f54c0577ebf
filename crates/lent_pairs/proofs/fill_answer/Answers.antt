use mathlib.Core.Path.{ap, ◌∙◌}
use Rattle.lent_pairs.specs.Roster.{filling_answer}
use Rattle.lent_pairs.proofs.Rosters.{plain}
use Rattle.lent_pairs.proofs.fill_answer.Goals as goal

pub returns : goal.returns
unfolding filling_answer
returns c =
    record { value = c.filling_number.ensures ∙ plain _ ∙ ap filling_answer c.fill_row.ensures.0; row_after = c.fill_row.ensures.1 }
