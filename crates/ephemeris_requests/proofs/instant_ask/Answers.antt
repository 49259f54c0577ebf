use mathlib.Core.Path.{sym, ap}
use Rattle.ephemeris_requests.specs.Requests.{instant_ask}
use Rattle.ephemeris_requests.proofs.instant_ask.Goals as goal

pub returns-in-Some : goal.returns-in-Some
returns-in-Some c = sym (ap instant_ask c.in-Some.is)

pub returns-in-None : goal.returns-in-None
returns-in-None c = sym (ap instant_ask c.in-None.is)
