use Rattle.monday_report.specs.Print.{tally_text}
use Rattle.text.proofs.Pieces.{both}
use Rattle.monday_report.proofs.lines.put_tally.Goals as goal

pub returns : goal.returns
unfolding tally_text
returns c =
    both c.put_line-p.ensures
    (both c.put_refusals-p.ensures
    (both c.put_kinds-p.ensures
    c.put_times.ensures))
