use mathlib.Core.Path.{ap, ◌∙◌}
use Rattle.ephemeris_requests.specs.Requests.{instant_ask}
use Rattle.ephemeris_requests.proofs.read_instant.Goals as goal

pub returns : goal.returns
returns c = c.instant_ask.ensures ∙ ap instant_ask c.read_start.ensures
