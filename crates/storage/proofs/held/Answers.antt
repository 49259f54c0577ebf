use Rattle.storage.specs.Storage.{satellite_of, model_at, place_at}
use Rattle.storage.proofs.held.Goals as goal

pub returns : goal.returns
unfolding satellite_of model_at place_at
returns c =
    simp (c.epoch_at-epoch.ensures, c.side_at-side.ensures, c.near_earth_at-near.ensures, c.method_at-method.ensures)
