-- Opening in the profile: the full program's opening (`open_of` of crate opening) with refusal 32, deep space, "between 7 and 8". Definitions only.
use Rattle.std.specs.Prelude.{ℕ, Bool, cond, ◌&&◌, Err, Ok, Result}
use Rattle.elementary.specs.Notation.{finite}
use Rattle.instant.specs.declared.Instant.{Instant}
use Rattle.instant.specs.Calendar.{epoch_of}
use Rattle.instant.specs.Greenwich.{greenwich_of}
use Rattle.tle.specs.declared.Record.{Record}
use Rattle.satellite.specs.declared.Elements.{Elements}
use Rattle.satellite.specs.declared.NearEarth.{NearEarth}
use Rattle.near_earth.specs.Initl.{initl, deep_space}
use Rattle.near_earth.specs.Finite.{finite_near}
use Rattle.opening.specs.Elements.{elements_of}
use Rattle.opening.specs.declared.opening.Refusal.{Refusal as FullRefusal}
use Rattle.opening.specs.declared.opening.Refusal.TheVariants as full-refusal
use Rattle.opening.specs.declared.opening.Satellite.{Satellite}
use Rattle.opening.specs.Opening as O
use Rattle.profile.specs.declared.opener.Refusal.{Refusal}
use Rattle.profile.specs.declared.opener.Refusal.TheVariants as refusal

unfoldable pub number : Refusal → ℕ
number refusal.Record = 16
number refusal.Perigee = 7
number refusal.DeepSpace = 32
number refusal.NotFinite = 8

-- a period of 225 minutes or more, as crate near_earth decides it
unfoldable pub is_deep : Elements → Bool
is_deep el = deep_space (initl el.ecco el.inclo el.no)

-- the full program's answer, of a record that is deep space or not: 16 and 7 come before 32, 8 after it
unfoldable pub narrow : Bool → Result Satellite FullRefusal → Result (NearEarth × Instant) Refusal
narrow deep (Ok s) = cond deep (Err refusal.DeepSpace) (Ok (s.model.near, s.model.epoch))
narrow deep (Err full-refusal.Record) = Err refusal.Record
narrow deep (Err full-refusal.Perigee) = Err refusal.Perigee
narrow deep (Err full-refusal.NotFinite) = cond deep (Err refusal.DeepSpace) (Err refusal.NotFinite)

abbrev pub narrowed : Record → Result Satellite FullRefusal → Result (NearEarth × Instant) Refusal
narrowed r o = narrow (is_deep (elements_of r)) o

unfoldable pub open_of : Record → Result (NearEarth × Instant) Refusal
open_of r = narrowed r (O.open_of r)

-- what is left of it for a record that is legal, as every record is that reading gives: `read_opens` of proofs/Narrow
unfoldable pub open_read_of : Record → Result (NearEarth × Instant) Refusal
open_read_of r = narrowed r (O.dated r (epoch_of r.year r.day))

-- what is left of `checked` of crate opening for a near-Earth satellite
unfoldable pub near_checked : NearEarth → Instant → Result (NearEarth × Instant) Refusal
near_checked near t = cond (finite_near near && finite (greenwich_of t.0)) (Ok (near, t)) (Err refusal.NotFinite)
