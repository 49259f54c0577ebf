use mathlib.Core.Path.{ap, ◌∙◌}
use Rattle.lent_pairs.specs.Roster.{lodging_answer}
use Rattle.lent_pairs.proofs.Rosters.{lodging_fits}
use Rattle.lent_pairs.proofs.lodge_answer.Goals as goal

pub lodging_answer-requires : goal.lodging_answer-requires
lodging_answer-requires c =
    let a = c.args in
    lodging_fits a.roster.now a.row.now a.line1.now a.line2.now c.lodge.result c.lodge.ensures.0

pub returns : goal.returns
returns c =
    record { value = c.lodging_answer.ensures ∙ ap lodging_answer c.lodge.ensures.0; roster_after = c.lodge.ensures.1; row_after = c.lodge.ensures.2 }
