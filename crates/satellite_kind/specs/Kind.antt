-- Document 01, "Opening": what opening a record comes to in a word, and how deep a perigee lies.
use Rattle.std.specs.Prelude.{Float, Err, Ok, Result}
use Rattle.elementary.specs.Notation.{dec, ◌⊖◌, ◌⊗◌}
use Rattle.wgs72.specs.Getgravconst.{radiusearthkm}
use Rattle.near_earth.specs.Initl.{initl}
use Rattle.tle.specs.declared.Record.{Record}
use Rattle.opening.specs.Elements.{elements_of}
use Rattle.satellite.specs.declared.Method.{Method}
use Rattle.satellite.specs.declared.Method.TheVariants as method
use Rattle.satellite.specs.declared.Resonance.{Resonance}
use Rattle.satellite.specs.declared.Resonance.TheVariants as resonance
use Rattle.opening.specs.declared.opening.Refusal.{Refusal}
use Rattle.opening.specs.declared.opening.Refusal.TheVariants as refusal
use Rattle.opening.specs.declared.opening.Satellite.{Satellite}
use Rattle.satellite_kind.specs.declared.Kind.{Kind}
use Rattle.satellite_kind.specs.declared.Kind.TheVariants.{NearEarth, DeepSpace, OneDay, HalfDay, Perigee, NotFinite, NoRecord}

abbrev pub resonance_kind : Resonance → Kind
resonance_kind resonance.None = DeepSpace
resonance_kind (resonance.OneDay d) = OneDay
resonance_kind (resonance.HalfDay d) = HalfDay

abbrev pub method_kind : Method → Kind
method_kind method.NearEarth = NearEarth
method_kind (method.DeepSpace d) = resonance_kind d.integrator.resonance

abbrev pub refusal_kind : Refusal → Kind
refusal_kind refusal.Record = NoRecord
refusal_kind refusal.Perigee = Perigee
refusal_kind refusal.NotFinite = NotFinite

abbrev pub opening_kind : Result Satellite Refusal → Kind
opening_kind (Ok s) = method_kind s.model.method
opening_kind (Err why) = refusal_kind why

-- km from the ground, one Earth radius from the centre, down to the perigee at the epoch
unfoldable pub perigee_depth : Record → Float
perigee_depth r = let el = elements_of r in (dec 1 0 ⊖ (initl el.ecco el.inclo el.no).rp) ⊗ radiusearthkm
