use mathlib.Core.Path.{ap, sym}
use Rattle.text.proofs.Pieces.{same}
use Rattle.reading_faults.specs.Ranges.{field_text}
use Rattle.reading_faults.proofs.put_field.Goals as goal

pub returns-in-Day : goal.returns-in-Day
unfolding field_text
returns-in-Day c =
    let g = c.in-Day.is in
    same (sym (ap field_text g)) c.put_bytes.ensures

pub returns-in-Inclination : goal.returns-in-Inclination
unfolding field_text
returns-in-Inclination c =
    let g = c.in-Inclination.is in
    same (sym (ap field_text g)) c.put_bytes-in-Inclination.ensures

pub returns-in-Node : goal.returns-in-Node
unfolding field_text
returns-in-Node c =
    let g = c.in-Node.is in
    same (sym (ap field_text g)) c.put_bytes-in-Node.ensures

pub returns-in-Perigee : goal.returns-in-Perigee
unfolding field_text
returns-in-Perigee c =
    let g = c.in-Perigee.is in
    same (sym (ap field_text g)) c.put_bytes-in-Perigee.ensures

pub returns-in-Anomaly : goal.returns-in-Anomaly
unfolding field_text
returns-in-Anomaly c =
    let g = c.in-Anomaly.is in
    same (sym (ap field_text g)) c.put_bytes-in-Anomaly.ensures

pub returns-in-Motion : goal.returns-in-Motion
unfolding field_text
returns-in-Motion c =
    let g = c.in-Motion.is in
    same (sym (ap field_text g)) c.put_bytes-in-Motion.ensures
