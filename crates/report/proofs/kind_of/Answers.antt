use mathlib.Core.Path.{◌∙◌}
use lib.Ieee.{of_bits}
use Rattle.report.specs.Report.{kind_of}
use Rattle.opening.specs.Opening.{open_of}
use Rattle.report.proofs.Judged.{judged}
use Rattle.report.proofs.kind_of.Goals as goal

pub returns : goal.returns
unfolding kind_of of_bits
returns c =
    c.marked_kind.ensures ∙ judged (open_of c.args.r) _ _ c.open_record-answer.ensures.value c.open_record-answer.ensures.marks_after
