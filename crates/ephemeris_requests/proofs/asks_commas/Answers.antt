use Rattle.ephemeris_requests.specs.Requests.{commas_in}
use Rattle.ephemeris_requests.proofs.asks_commas.Goals as goal

pub returns : goal.returns
unfolding commas_in
returns c = rw c.begins.ensures.0
