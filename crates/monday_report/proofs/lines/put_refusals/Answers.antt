use Rattle.monday_report.specs.Print.{refusals_text}
use Rattle.text.proofs.Pieces.{both}
use Rattle.monday_report.proofs.lines.put_refusals.Goals as goal

pub returns : goal.returns
unfolding refusals_text
returns c =
    both c.put_line-p.ensures
    (both c.put_line-p-2.ensures
    (both c.put_line-p-3.ensures
    (both c.put_line-p-4.ensures
    (both c.put_line-p-5.ensures
    c.put_line.ensures))))
