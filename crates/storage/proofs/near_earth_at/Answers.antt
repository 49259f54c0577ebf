use Rattle.storage.specs.Storage.{near_earth_at}
use Rattle.storage.proofs.near_earth_at.Goals as goal

pub returns : goal.returns
unfolding near_earth_at
returns c =
    simp (c.kept_at-kept.ensures, c.terms_at-terms.ensures, c.rates_at-rates.ensures, c.higher_at-higher.ensures, c.drag_at-drag.ensures, c.elements_at-elements.ensures)
