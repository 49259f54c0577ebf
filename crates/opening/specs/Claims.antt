-- What is claimed of every satellite that opening gives, and proved in proofs/Made. Definitions only.
use Rattle.std.specs.Prelude.{◌≡◌, Ok, Some}
use Rattle.instant.specs.Calendar.{epoch_of}
use Rattle.tle.specs.declared.Record.{Record}
use Rattle.opening.specs.declared.opening.Satellite.{Satellite}
use Rattle.opening.specs.Opening.{open_of}

-- an opened satellite keeps its epoch: the instant of the record's year and day (`epoch_kept`)
abbrev pub KeepsEpoch : Type 0
KeepsEpoch = (r : Record) (s : Satellite) → open_of r ≡ Ok s → epoch_of r.year r.day ≡ Some s.model.epoch
