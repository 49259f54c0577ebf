-- What is claimed of rows, and proved. Definitions only.
use Rattle.std.specs.Prelude.{◌≡◌, ℤ}
use Rattle.satellite.specs.declared.Model.{Model}
use Rattle.near_earth.specs.Kept.{AsComputed}
use Rattle.resonance.specs.declared.place.Place.{Place}
use Rattle.sgp4.specs.Row.{row_at}
use Rattle.sgp4.specs.Kept.{row_from}

-- the code's rows are, bit for bit, 002's own
abbrev pub PlainRows : Model → Type 0
PlainRows k = (p : Place) (t : ℤ) → row_from k p t ≡ row_at k p t

-- of a satellite whose kept numbers are as 002 computes them (`rows_as_computed` of proofs/Kept)
abbrev pub RowsAsComputed : Type 0
RowsAsComputed = (k : Model) → AsComputed k.near → PlainRows k
