use mathlib.Core.Path.{ap, sym}
use Rattle.text.proofs.Pieces.{same}
use Rattle.refusal_line.specs.Refusal.{values_text}
use Rattle.refusal_line.proofs.put_values.Goals as goal

pub returns-in-Length : goal.returns-in-Length
unfolding values_text
returns-in-Length c = same (sym (ap values_text c.in-Length.is)) c.put_line_number.ensures

pub returns-in-Start : goal.returns-in-Start
unfolding values_text
returns-in-Start c = same (sym (ap values_text c.in-Start.is)) c.put_line_number-in-Start.ensures

pub returns-in-Column : goal.returns-in-Column
unfolding values_text
returns-in-Column c = same (sym (ap values_text c.in-Column.is)) c.put_place.ensures

pub returns-in-Checksum : goal.returns-in-Checksum
unfolding values_text
returns-in-Checksum c = same (sym (ap values_text c.in-Checksum.is)) c.put_line_number-in-Checksum.ensures

pub returns-in-Numbers : goal.returns-in-Numbers
unfolding values_text
returns-in-Numbers c = same (sym (ap values_text c.in-Numbers.is)) c.put_bytes.ensures

pub returns-in-Range : goal.returns-in-Range
unfolding values_text
returns-in-Range c = same (sym (ap values_text c.in-Range.is)) c.put_field.ensures

pub returns-in-NoForm : goal.returns-in-NoForm
unfolding values_text
returns-in-NoForm c = same (sym (ap values_text c.in-NoForm.is)) c.put_bytes-in-NoForm.ensures
