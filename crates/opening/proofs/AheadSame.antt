-- The longest steps of the deep-space initialization, begun ahead, come to the same.
use mathlib.Core.Path.{◌≡◌, refl, sym, ap, ◌∙◌}
use mathlib.Core.Bool.{Bool, true, false, cond}
use lib.Ieee.{Float}
use Rattle.instant.specs.declared.Instant.{Instant}
use Rattle.satellite.specs.declared.Elements.{Elements}
use Rattle.satellite.specs.declared.NearEarth.{NearEarth}
use Rattle.satellite.specs.declared.DeepSpace.{DeepSpace}
use Rattle.satellite.specs.declared.Method.TheVariants as method
use Rattle.satellite.specs.declared.Model.{Model}
use Rattle.near_earth.specs.declared.parts.Initl.{Initl}
use Rattle.near_earth.specs.Initl.{guard, deep_space}
use Rattle.near_earth.specs.Sgp4init.{recovered, filled, zeroed, near_earth}
use Rattle.lunar_solar.specs.Dscom.{shape_of, dscom_from, dscom_of}
use Rattle.lunar_solar.specs.Dsinit.{secular_of}
use Rattle.satellite.specs.declared.Integrator.{Integrator}
use Rattle.resonance_terms.proofs.AheadSame.{same}
use Rattle.opening.specs.declared.ahead.Ahead.{Ahead}
use Rattle.opening.specs.DeepSpace.{tc, common, set_up, orbit, at_epoch, deep_space_of}
use Rattle.opening.specs.Ahead.{ahead_of, deep_space_from}
use Rattle.opening.specs.Opening.{model_of}

-- sgp4init keeps the elements, with the mean motion recovered
elements_by : (b : Bool) (el : Elements) (i : Initl) (deep : Bool) → (cond b (filled el i deep) (zeroed el i)).elements ≡ recovered el i
unfolding filled zeroed
elements_by true el i deep = refl
elements_by false el i deep = refl

elements_of_lem : (el : Elements) (i : Initl) (deep : Bool) → (near_earth el i deep).elements ≡ recovered el i
unfolding near_earth
elements_of_lem el i deep = elements_by (guard i) el i deep

-- dsinit's mean motion and eccentricity are the elements'
own : (epoch gsto : Float) (n : NearEarth) (eccsq : Float) → deep_space_from (ahead_of epoch n.elements n.elements.no) epoch gsto n eccsq ≡ deep_space_of epoch gsto n eccsq
unfolding deep_space_from deep_space_of ahead_of common dscom_of dscom_from shape_of orbit
own epoch gsto n eccsq =
    let c = common epoch n in
    let x = set_up c n in
    let s = secular_of c n.elements.inclo in
    ap
    (λ (i : Integrator). record { rates = s; periodics = c.periodics; integrator = i })
    (same (orbit c x.ep eccsq) (at_epoch n x gsto) s tc)

deep_ahead : (el : Elements) (i : Initl) (deep : Bool) (epoch gsto eccsq : Float)
    → deep_space_from (ahead_of epoch el i.no) epoch gsto (near_earth el i deep) eccsq ≡ deep_space_of epoch gsto (near_earth el i deep) eccsq
unfolding ahead_of recovered
deep_ahead el i deep epoch gsto eccsq =
    let n = near_earth el i deep in
    ap (λ (e : Elements). deep_space_from (ahead_of epoch e e.no) epoch gsto n eccsq) (sym (elements_of_lem el i deep)) ∙ own epoch gsto n eccsq

pub deep_model : (el : Elements) (i : Initl) (t : Instant) (days gsto : Float) (b : Bool) (a : Ahead) (n : NearEarth) (d : DeepSpace)
    → b ≡ deep_space i → b ≡ true → a ≡ ahead_of days el i.no → n ≡ near_earth el i true → d ≡ deep_space_from a days gsto n i.eccsq
    → ◌≡◌ {A = Model} (record { near = n; method = method.DeepSpace d; epoch = t }) (model_of el i t days gsto)
unfolding model_of
deep_model el i t days gsto b a n d hb ht ha hn hd =
    let e : deep_space i ≡ true = sym hb ∙ ht in
    rw (hd, ha, hn, e) (ap (λ (z : DeepSpace). record { near = near_earth el i true; method = method.DeepSpace z; epoch = t }) (deep_ahead el i true days gsto i.eccsq))

pub near_model_lem : (el : Elements) (i : Initl) (t : Instant) (days gsto : Float) (b : Bool) (n : NearEarth) → b ≡ deep_space i → b ≡ false → n ≡ near_earth el i false
    → ◌≡◌ {A = Model} (record { near = n; method = method.NearEarth; epoch = t }) (model_of el i t days gsto)
unfolding model_of
near_model_lem el i t days gsto b n hb hf hn =
    let e : deep_space i ≡ false = sym hb ∙ hf in
    rw (hn, e)
