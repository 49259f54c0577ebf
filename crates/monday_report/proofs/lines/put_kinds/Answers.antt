use Rattle.monday_report.specs.Print.{kinds_text}
use Rattle.text.proofs.Pieces.{both}
use Rattle.monday_report.proofs.lines.put_kinds.Goals as goal

pub returns : goal.returns
unfolding kinds_text
returns c =
    both c.put_line-p.ensures
    (both c.put_line-p-2.ensures
    c.put_line.ensures)
