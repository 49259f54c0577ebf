-- Opening a record: document 01, "Opening: 16, 7, 8", and 002's sgp4init (lines 2949-3225), the branches joined. Definitions only.
use Rattle.std.specs.Prelude.{ℕ, Bool, true, cond, ◌&&◌, List, Float, Err, None, Ok, Option, Result, Some}
use Rattle.std.specs.Float.Ieee.{lt}
use Rattle.elementary.specs.Notation.{dec, finite}
use Rattle.instant.specs.declared.Instant.{Instant}
use Rattle.tle.specs.declared.Refusal.{Refusal as ReadingRefusal}
use Rattle.opening.specs.declared.opening.PairRefusal.{PairRefusal}
use Rattle.opening.specs.declared.opening.PairRefusal.TheVariants as pair
use Rattle.instant.specs.Calendar.{epoch_of}
use Rattle.instant.specs.Greenwich.{epoch_days_of, greenwich_of}
use Rattle.tle.specs.declared.Record.{Record}
use Rattle.tle.specs.Legal.{legal}
use Rattle.tle.specs.Read.{read_of}
use Rattle.tle.specs.Refusals.{Values, nothing, number_of, values_of}
use Rattle.satellite.specs.declared.Elements.{Elements}
use Rattle.satellite.specs.declared.DeepSpace.{DeepSpace}
use Rattle.satellite.specs.declared.Method.{Method}
use Rattle.satellite.specs.declared.Method.TheVariants as method
use Rattle.satellite.specs.declared.Model.{Model}
use Rattle.near_earth.specs.declared.parts.Initl.{Initl}
use Rattle.near_earth.specs.Initl.{initl, deep_space}
use Rattle.near_earth.specs.Sgp4init.{near_earth}
use Rattle.near_earth.specs.Finite.{finite_near}
use Rattle.lunar_solar.specs.Finite.{finite_rates, finite_lunar_solar}
use Rattle.resonance.specs.declared.place.Place.{Place}
use Rattle.resonance.specs.declared.place.Side.TheVariants as side
use Rattle.resonance.specs.Place as P
use Rattle.resonance_terms.specs.Finite.{finite_integrator}
use Rattle.opening.specs.declared.opening.Satellite.{Satellite}
use Rattle.opening.specs.declared.opening.Refusal.{Refusal}
use Rattle.opening.specs.declared.opening.Refusal.TheVariants as refusal
use Rattle.opening.specs.Elements.{elements_of}
use Rattle.opening.specs.DeepSpace.{deep_space_of}

-- document 01's numbers
unfoldable pub number : Refusal → ℕ
number refusal.Record = 16
number refusal.Perigee = 7
number refusal.NotFinite = 8

-- ── the satellite ──

-- what sgp4init fills, of the elements, what initl gives for them, the epoch, its days and its Greenwich angle
unfoldable pub model_of : Elements → Initl → Instant → Float → Float → Model
model_of el i t days gsto =
    let deep = deep_space i in
    let near = near_earth el i deep in
    record { near = near; method = cond deep (method.DeepSpace (deep_space_of days gsto near i.eccsq)) method.NearEarth; epoch = t }

-- the place of the epoch: without resonance forward, stride 0 and the pair (0.0, 0.0)
unfoldable pub epoch_place : Method → Place
epoch_place method.NearEarth = record { side = side.Forward; strides = record { 0 = 0 }; xli = dec 0 0; xni = dec 0 0 }
epoch_place (method.DeepSpace d) = P.epoch_of d.integrator

-- a satellite as it is newly opened
unfoldable pub newly : Model → Satellite
newly m = record { model = m; place = epoch_place m.method }

-- ── refusal 8 ──

unfoldable pub finite_deep : DeepSpace → Bool
finite_deep d = finite_rates d.rates && finite_lunar_solar d.periodics && finite_integrator d.integrator

unfoldable pub finite_method : Method → Bool
finite_method method.NearEarth = true
finite_method (method.DeepSpace d) = finite_deep d

-- every number that sgp4init puts into 002's record; gsto stands there for near-Earth satellites too
unfoldable pub finite_record : Model → Float → Bool
finite_record m gsto = finite_near m.near && finite_method m.method && finite gsto

-- ── opening ──

unfoldable pub checked : Model → Float → Result Satellite Refusal
checked m gsto = cond (finite_record m gsto) (Ok (newly m)) (Err refusal.NotFinite)

-- 3048: perigee at epoch below one Earth radius
unfoldable pub above : Elements → Initl → Instant → Float → Float → Result Satellite Refusal
above el i t days gsto = cond (lt i.rp (dec 1 0)) (Err refusal.Perigee) (checked (model_of el i t days gsto) gsto)

-- of the elements and the epoch
unfoldable pub started : Elements → Instant → Result Satellite Refusal
started el t = above el (initl el.ecco el.inclo el.no) t (epoch_days_of t.0) (greenwich_of t.0)

-- a legal record's epoch is never outside (`epochs_inside` of tle's proofs/Accepted)
unfoldable pub dated : Record → Option Instant → Result Satellite Refusal
dated r (Some t) = started (elements_of r) t
dated r None = Err refusal.Record

unfoldable pub open_of : Record → Result Satellite Refusal
open_of r = cond (legal r) (dated r (epoch_of r.year r.day)) (Err refusal.Record)

-- ── two lines: reading, then opening ──

unfoldable pub opened : Result Satellite Refusal → Result Satellite PairRefusal
opened (Ok s) = Ok s
opened (Err why) = Err (pair.Refused why)

unfoldable pub after_reading : Result Record ReadingRefusal → Result Satellite PairRefusal
after_reading (Ok r) = opened (open_of r)
after_reading (Err why) = Err (pair.Unread why)

unfoldable pub open_pair_of : List ℕ → List ℕ → Result Satellite PairRefusal
open_pair_of line1 line2 = after_reading (read_of line1 line2)

-- document 01's number of each answer, 0 where there is a satellite, and what comes back with it: with 7, 8 and 16 nothing
unfoldable pub pair_number : Result Satellite PairRefusal → ℕ
pair_number (Ok s) = 0
pair_number (Err (pair.Unread why)) = number_of why
pair_number (Err (pair.Refused why)) = number why

unfoldable pub pair_values : Result Satellite PairRefusal → Values
pair_values (Ok s) = nothing
pair_values (Err (pair.Unread why)) = values_of why
pair_values (Err (pair.Refused why)) = nothing
