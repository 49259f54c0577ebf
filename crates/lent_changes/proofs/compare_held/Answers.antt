use mathlib.Core.Path.{ap, ◌∙◌}
use lib.ListN.{length}
use Rattle.lent_changes.specs.Answer.{compared_answer}
use Rattle.lent_changes.proofs.Fits.{written_fits}
use Rattle.lent_changes.proofs.compare_held.Goals as goal

pub compared_answer-requires : goal.compared_answer-requires
compared_answer-requires c =
    let a = c.args in
    written_fits a.first.now a.row1.now a.second.now a.row2.now (length a.out.now) c.compare-compared.result c.compare-compared.ensures.0

pub returns : goal.returns
returns c =
    record { value = c.compared_answer.ensures ∙ ap compared_answer c.compare-compared.ensures.0; out_after = c.compare-compared.ensures.1 }
