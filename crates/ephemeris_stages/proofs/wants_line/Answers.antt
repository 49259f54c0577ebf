use mathlib.Core.Path.{sym, ap}
use Rattle.ephemeris_stages.specs.Stages.{wants_line}
use Rattle.ephemeris_stages.proofs.wants_line.Goals as goal

pub returns-in-Start : goal.returns-in-Start
unfolding wants_line
returns-in-Start c = sym (ap wants_line c.in-Start.is)

pub returns-in-First : goal.returns-in-First
unfolding wants_line
returns-in-First c = sym (ap wants_line c.in-First.is)

pub returns-in-Second : goal.returns-in-Second
unfolding wants_line
returns-in-Second c = sym (ap wants_line c.in-Second.is)

pub returns-in-Asking : goal.returns-in-Asking
unfolding wants_line
returns-in-Asking c = sym (ap wants_line c.in-Asking.is)

pub returns-in-Over : goal.returns-in-Over
unfolding wants_line
returns-in-Over c = sym (ap wants_line c.in-Over.is)
