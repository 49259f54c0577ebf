-- The full program's opening, narrowed, at each of the tests that the profile's opening takes.
use mathlib.Core.Path.{◌≡◌, refl, sym, ap}
use mathlib.Core.Bool.{Bool, true, false, cond, ◌&&◌}
use lib.Ieee.{Float, lt}
use Rattle.elementary.specs.Notation.{dec, finite}
use Rattle.instant.specs.declared.Instant.{Instant}
use Rattle.instant.specs.Calendar.{epoch_of}
use Rattle.instant.specs.Greenwich.{greenwich_of}
use Rattle.tle.specs.declared.Record.{Record}
use Rattle.tle.specs.Legal.{legal}
use Rattle.satellite.specs.declared.Elements.{Elements}
use Rattle.satellite.specs.declared.Method.TheVariants as methods
use Rattle.near_earth.specs.declared.parts.Initl.{Initl}
use Rattle.near_earth.specs.Initl.{deep_space}
use Rattle.near_earth.specs.Sgp4init.{near_earth}
use Rattle.near_earth.specs.Finite.{finite_near}
use Rattle.opening.specs.declared.opening.Satellite.{Satellite}
use Rattle.opening.specs.declared.opening.Refusal.TheVariants as full-refusal
use Rattle.std.specs.Prelude.{Err, Ok}
use Rattle.opening.specs.Opening as O
use Rattle.opening.specs.Opening.{newly, model_of, finite_method, finite_record, checked, above}
use Rattle.profile.specs.declared.opener.Refusal.TheVariants as refusal
use Rattle.profile.specs.Opening.{narrow, narrowed, open_read_of, open_of, near_checked}

-- a legal record is opened without being judged again
pub read_opens : (r : Record) → legal r ≡ true → open_read_of r ≡ open_of r
unfolding open_read_of open_of O.open_of
read_opens r h = sym (ap (λ (b : Bool). narrowed r (cond b (O.dated r (epoch_of r.year r.day)) (Err full-refusal.Record))) h)

module _ (el : Elements) (i : Initl) (t : Instant) (days : Float) where
  pub at_perigee : (gsto : Float) → lt i.rp (dec 1 0) ≡ true → Err refusal.Perigee ≡ narrow (deep_space i) (above el i t days gsto)
  unfolding above narrow
  at_perigee gsto h = rw h

  deep_by : (b : Bool) (s : Satellite) → narrow true (cond b (Ok s) (Err full-refusal.NotFinite)) ≡ Err refusal.DeepSpace
  unfolding narrow
  deep_by true s = refl
  deep_by false s = refl

  pub at_deep : (gsto : Float) → lt i.rp (dec 1 0) ≡ false → deep_space i ≡ true → Err refusal.DeepSpace ≡ narrow (deep_space i) (above el i t days gsto)
  unfolding above checked
  at_deep gsto h d = let m = model_of el i t days gsto in rw (h, d) (sym (deep_by (finite_record m gsto) (newly m)))

  near_by : (a b : Bool) (s : Satellite)
      → narrow false (cond (a && true && b) (Ok s) (Err full-refusal.NotFinite))
      ≡ cond (a && b) (Ok (s.model.near, s.model.epoch)) (Err refusal.NotFinite)
  unfolding narrow
  near_by true true s = refl
  near_by true false s = refl
  near_by false b s = refl

  pub at_near : lt i.rp (dec 1 0) ≡ false → deep_space i ≡ false → near_checked (near_earth el i false) t ≡ narrow (deep_space i) (above el i t days (greenwich_of t.0))
  unfolding above checked model_of finite_record finite_method near_checked newly
  at_near h d =
      let n = near_earth el i false in
      rw (h, d) (sym (near_by (finite_near n) (finite (greenwich_of t.0)) (newly (record { near = n; method = methods.NearEarth; epoch = t }))))
