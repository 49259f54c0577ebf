-- Every number of a satellite: those of 002's record, and those beside it, what a row keeps and the pair of the saved position. Definitions only.
use Rattle.std.specs.Prelude.{Bool, ◌&&◌}
use Rattle.elementary.specs.Notation.{finite}
use Rattle.satellite.specs.declared.Kept.{Kept}
use Rattle.near_earth.specs.Finite.{finite_near}
use Rattle.resonance.specs.declared.place.Place.{Place}
use Rattle.opening.specs.declared.opening.Satellite.{Satellite}
use Rattle.opening.specs.Opening.{finite_method}

unfoldable pub finite_kept : Kept → Bool
finite_kept k = finite k.ao && finite k.sinio && finite k.cosio

unfoldable pub finite_place : Place → Bool
finite_place p = finite p.xli && finite p.xni

unfoldable pub finite_satellite : Satellite → Bool
finite_satellite s = finite_near s.model.near && finite_method s.model.method && finite_kept s.model.near.kept && finite_place s.place
