use mathlib.Core.Path.{ap, sym}
use Rattle.text.proofs.Pieces.{same}
use Rattle.refusal_line.specs.Refusal.{field_text}
use Rattle.refusal_line.proofs.put_field.Goals as goal

pub returns-in-Day : goal.returns-in-Day
unfolding field_text
returns-in-Day c = same (sym (ap field_text c.in-Day.is)) c.put_bytes.ensures

pub returns-in-Inclination : goal.returns-in-Inclination
unfolding field_text
returns-in-Inclination c = same (sym (ap field_text c.in-Inclination.is)) c.put_bytes-in-Inclination.ensures

pub returns-in-Node : goal.returns-in-Node
unfolding field_text
returns-in-Node c = same (sym (ap field_text c.in-Node.is)) c.put_bytes-in-Node.ensures

pub returns-in-Perigee : goal.returns-in-Perigee
unfolding field_text
returns-in-Perigee c = same (sym (ap field_text c.in-Perigee.is)) c.put_bytes-in-Perigee.ensures

pub returns-in-Anomaly : goal.returns-in-Anomaly
unfolding field_text
returns-in-Anomaly c = same (sym (ap field_text c.in-Anomaly.is)) c.put_bytes-in-Anomaly.ensures

pub returns-in-Motion : goal.returns-in-Motion
unfolding field_text
returns-in-Motion c = same (sym (ap field_text c.in-Motion.is)) c.put_bytes-in-Motion.ensures
