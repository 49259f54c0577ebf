use mathlib.Core.Path.{ap, sym, ◌∙◌}
use Rattle.std.specs.Prelude.{Err}
use Rattle.monday_report.specs.Print.{report_text}
use Rattle.text.proofs.Pieces.{same}
use Rattle.monday_report.proofs.lines.put_report.Goals as goal

pub returns-in-Ok : goal.returns-in-Ok
unfolding report_text
returns-in-Ok c = same (sym (ap report_text c.in-Ok.is)) c.put_tally.ensures

pub returns-in-TooMany : goal.returns-in-TooMany
unfolding report_text
returns-in-TooMany c = same (sym (ap report_text (c.in-Err.is ∙ ap Err c.in-TooMany.is))) c.put_line.ensures

pub returns-in-Odd : goal.returns-in-Odd
unfolding report_text
returns-in-Odd c = same (sym (ap report_text (c.in-Err.is ∙ ap Err c.in-Odd.is))) c.put_line-in-Odd.ensures
