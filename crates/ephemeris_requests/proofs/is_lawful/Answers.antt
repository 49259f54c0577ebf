use mathlib.Core.Path.{refl}
use Rattle.ephemeris_requests.specs.Requests.{lawful}
use Rattle.ephemeris_requests.proofs.is_lawful.Goals as goal

pub returns : goal.returns
unfolding lawful
returns c = refl
