use mathlib.Core.Path.{sym, ap}
use Rattle.answers.specs.Refusals.{field_number}
use Rattle.answers.proofs.field_number.Goals as goal

pub returns-in-Day : goal.returns-in-Day
unfolding field_number
returns-in-Day c = sym (ap field_number c.in-Day.is)

pub returns-in-Inclination : goal.returns-in-Inclination
unfolding field_number
returns-in-Inclination c = sym (ap field_number c.in-Inclination.is)

pub returns-in-Node : goal.returns-in-Node
unfolding field_number
returns-in-Node c = sym (ap field_number c.in-Node.is)

pub returns-in-Perigee : goal.returns-in-Perigee
unfolding field_number
returns-in-Perigee c = sym (ap field_number c.in-Perigee.is)

pub returns-in-Anomaly : goal.returns-in-Anomaly
unfolding field_number
returns-in-Anomaly c = sym (ap field_number c.in-Anomaly.is)

pub returns-in-Motion : goal.returns-in-Motion
unfolding field_number
returns-in-Motion c = sym (ap field_number c.in-Motion.is)
