-- The epoch of a legal record is an instant.
use mathlib.Core.Path.{◌≡◌, ap}
use mathlib.Core.Bool.{true}
use Rattle.instant.specs.Calendar.{epoch_of}
use Rattle.tle.specs.Legal.{legal}
use Rattle.tle.specs.declared.Record.{Record}
use Rattle.tle.proofs.Accepted.{epochs_inside}
use Rattle.roster.specs.Records.{instant_of, micros}

pub instant_legal : (r : Record) → legal r ≡ true → micros (epoch_of r.year r.day) ≡ instant_of r
unfolding instant_of
instant_legal r h = ap micros (epochs_inside r h)
