-- Every number of an opened satellite is finite. Refusal 8 looks at those of 002's record; the others are finite where those are.
use mathlib.Core.Path.{◌≡◌, refl, sym, ap, subst}
use mathlib.Core.Bool.{Bool, true, false, cond, ◌&&◌}
use lib.Dec.{ltb, leb}
use lib.IntN.{nat_abs}
use lib.Ieee.{Float, neg, round, units, odd, size, span, climb}
use lib.Count.{count_trailing_zeros}
use Rattle.elementary.specs.Notation.{◌⊗◌, dec, finite}
use Rattle.elementary.specs.Trig.{cos_of}
use Rattle.instant.specs.Greenwich.{greenwich_of}
use Rattle.tle.specs.declared.Record.{Record}
use Rattle.tle.specs.Legal.{legal, in_layout, in_ranges, designator_fits, scaled_fits}
use Rattle.wgs72.specs.Getgravconst.{j3oj2}
use Rattle.satellite.specs.declared.Elements.{Elements}
use Rattle.satellite.specs.declared.Drag.{Drag}
use Rattle.satellite.specs.declared.Terms.{Terms}
use Rattle.satellite.specs.declared.NearEarth.{NearEarth}
use Rattle.satellite.specs.declared.Resonance.{Resonance}
use Rattle.satellite.specs.declared.Resonance.TheVariants as kinds
use Rattle.satellite.specs.declared.Integrator.{Integrator}
use Rattle.satellite.specs.declared.DeepSpace.{DeepSpace}
use Rattle.satellite.specs.declared.Method.{Method}
use Rattle.satellite.specs.declared.Method.TheVariants as method
use Rattle.near_earth.specs.declared.parts.Initl.{Initl}
use Rattle.near_earth.specs.Initl.{initl, guard, deep_space}
use Rattle.near_earth.specs.Sgp4init.{atmosphere, shape, drag, aycof, terms, kept, filled, zeroed, near_earth}
use Rattle.near_earth.specs.Finite.{finite_near, finite_elements, finite_drag, finite_higher, finite_rates, finite_terms}
use Rattle.lunar_solar.specs.Finite as L
use Rattle.resonance.specs.Place.{at_epoch, epoch_of}
use Rattle.resonance_terms.specs.Finite.{finite_integrator, finite_kind}
use Rattle.opening.specs.declared.opening.Satellite.{Satellite}
use Rattle.std.specs.Prelude.{Ok}
use Rattle.opening.specs.Elements.{elements_of}
use Rattle.opening.specs.Opening.{epoch_place, newly, finite_deep, finite_method, finite_record, model_of, open_of}
use Rattle.opening.specs.Finite.{finite_kept, finite_place, finite_satellite}
use Rattle.opening.proofs.Tests.{both, left, right, second_of_5, fifth_of_5, second_of_7, fourth_of_7, first_of_9}
use Rattle.opening.proofs.FloatLaws.{mul_left, mul_right, sub_right}
use Rattle.opening.proofs.Guard.{guarded}
use Rattle.opening.proofs.Made.{Made, made}

-- ── what a row keeps: eta is made of ao, aycof of sinio, x1mth2 of cosio ──

near_drag : (n : NearEarth) → finite_near n ≡ true → finite_drag n.drag ≡ true
unfolding finite_near
near_drag n h =
    second_of_5 (finite_elements n.elements) (finite_drag n.drag) (finite_higher n.higher) (finite_rates n.rates) (finite_terms n.terms) h

near_terms : (n : NearEarth) → finite_near n ≡ true → finite_terms n.terms ≡ true
unfolding finite_near
near_terms n h =
    fifth_of_5 (finite_elements n.elements) (finite_drag n.drag) (finite_higher n.higher) (finite_rates n.rates) (finite_terms n.terms) h

from_eta : (d : Drag) → finite_drag d ≡ true → finite d.eta ≡ true
unfolding finite_drag
from_eta d h =
    first_of_9 (finite d.eta) (finite d.cc1) (finite d.cc4) (finite d.cc5) (finite d.omgcof) (finite d.xmcof) (finite d.t2cof)
    (finite d.delmo) (finite d.sinmao) h

from_x1mth2 : (t : Terms) → finite_terms t ≡ true → finite t.x1mth2 ≡ true
unfolding finite_terms
from_x1mth2 t h = second_of_5 (finite t.con41) (finite t.x1mth2) (finite t.x7thm1) (finite t.xlcof) (finite t.aycof) h

from_aycof : (t : Terms) → finite_terms t ≡ true → finite t.aycof ≡ true
unfolding finite_terms
from_aycof t h = fifth_of_5 (finite t.con41) (finite t.x1mth2) (finite t.x7thm1) (finite t.xlcof) (finite t.aycof) h

axis : (el : Elements) (i : Initl) (deep : Bool) → finite (filled el i deep).drag.eta ≡ true → finite i.ao ≡ true
unfolding filled drag shape
axis el i deep h = mul_left i.ao el.ecco (mul_left (i.ao ⊗ el.ecco) (shape i.ao el.ecco (atmosphere i.rp)).tsi h)

sine : (el : Elements) (i : Initl) (deep : Bool) → finite (filled el i deep).terms.aycof ≡ true → finite i.sinio ≡ true
unfolding filled terms aycof
sine el i deep h = mul_right (neg (dec 5 1) ⊗ j3oj2) i.sinio h

cosine : (el : Elements) (deep : Bool) → finite (filled el (initl el.ecco el.inclo el.no) deep).terms.x1mth2 ≡ true
    → finite (initl el.ecco el.inclo el.no).cosio ≡ true
unfolding filled terms initl
cosine el deep h = mul_left (cos_of el.inclo) (cos_of el.inclo) (sub_right (dec 1 0) (cos_of el.inclo ⊗ cos_of el.inclo) h)

filled_kept : (el : Elements) (deep : Bool) → finite_near (filled el (initl el.ecco el.inclo el.no) deep) ≡ true
    → finite_kept (kept (initl el.ecco el.inclo el.no)) ≡ true
unfolding finite_kept kept
filled_kept el deep h =
    let i = initl el.ecco el.inclo el.no in
    let n = filled el i deep in
    let d = near_drag n h in
    let t = near_terms n h in
    both (finite i.ao && finite i.sinio) (finite i.cosio)
    (both (finite i.ao) (finite i.sinio) (axis el i deep (from_eta n.drag d)) (sine el i deep (from_aycof n.terms t)))
    (cosine el deep (from_x1mth2 n.terms t))

either : (el : Elements) (deep b : Bool) → b ≡ true
    → finite_near (cond b (filled el (initl el.ecco el.inclo el.no) deep) (zeroed el (initl el.ecco el.inclo el.no))) ≡ true
    → finite_kept (cond b (filled el (initl el.ecco el.inclo el.no) deep) (zeroed el (initl el.ecco el.inclo el.no))).kept ≡ true
unfolding filled
either el deep true e h = filled_kept el deep h
either el deep false e h = cc

kept_finite : (el : Elements) (deep : Bool) → guard (initl el.ecco el.inclo el.no) ≡ true
    → finite_near (near_earth el (initl el.ecco el.inclo el.no) deep) ≡ true
    → finite_kept (near_earth el (initl el.ecco el.inclo el.no) deep).kept ≡ true
unfolding near_earth
kept_finite el deep g h = either el deep (guard (initl el.ecco el.inclo el.no)) g h

-- ── the saved position's pair ──

at : (k : Resonance) (x : Float) → finite x ≡ true → finite (at_epoch k x) ≡ true
unfolding at_epoch finite round units odd size span climb count_trailing_zeros
at kinds.None x h = refl
at (kinds.OneDay d) x h = h
at (kinds.HalfDay d) x h = h

integrator_place : (i : Integrator) → finite_integrator i ≡ true → finite_place (epoch_of i) ≡ true
unfolding finite_place epoch_of finite_integrator
integrator_place i h =
    let k = finite_kind i.resonance in
    both (finite (at_epoch i.resonance i.xlamo)) (finite (at_epoch i.resonance i.no))
    (at i.resonance i.xlamo
    (second_of_7 k (finite i.xlamo) (finite i.xfact) (finite i.no) (finite i.argpo) (finite i.argpdot) (finite i.gsto) h))
    (at i.resonance i.no
    (fourth_of_7 k (finite i.xlamo) (finite i.xfact) (finite i.no) (finite i.argpo) (finite i.argpdot) (finite i.gsto) h))

deep_integrator : (d : DeepSpace) → finite_deep d ≡ true → finite_integrator d.integrator ≡ true
unfolding finite_deep
deep_integrator d h = right (L.finite_rates d.rates && L.finite_lunar_solar d.periodics) (finite_integrator d.integrator) h

zeros : finite (dec 0 0) && finite (dec 0 0) ≡ true
unfolding finite round units odd size span climb count_trailing_zeros
zeros = refl

place_finite : (m : Method) → finite_method m ≡ true → finite_place (epoch_place m) ≡ true
unfolding finite_place epoch_place finite_method
place_finite method.NearEarth h = zeros
place_finite (method.DeepSpace d) h = integrator_place d.integrator (deep_integrator d h)

-- ── the whole ──

legal_eccentricity : (r : Record) → legal r ≡ true → ltb r.eccentricity 10000000 ≡ true
unfolding legal in_layout
legal_eccentricity r h =
    let before =
    ltb r.number 340000 && designator_fits r.designator && leb 1957 r.year && leb r.year 2056
    && ltb (nat_abs r.ndot) 100000000 && scaled_fits r.nddot && scaled_fits r.bstar
    && ltb r.ephemeris 10 && ltb r.element 10000
    in
    let e = ltb r.eccentricity 10000000 in
    let m = ltb r.motion 10000000000 in
    let v = ltb r.revolution 100000 in
    right before e (left (before && e) m (left (before && e && m) v (left (before && e && m && v) (in_ranges r) h)))

kept_of : (r : Record) (s : Satellite) → Made r s → finite_near s.model.near ≡ true → finite_kept s.model.near.kept ≡ true
unfolding model_of elements_of
kept_of r s m h =
    let el = elements_of r in
    let i = initl el.ecco el.inclo el.no in
    let n : finite_near (near_earth el i (deep_space i)) ≡ true = subst (λ k. finite_near k.near ≡ true) m.model h in
    subst (λ k. finite_kept k.near.kept ≡ true) (sym m.model)
    (kept_finite el (deep_space i) (guarded r.eccentricity el.inclo el.no (legal_eccentricity r m.lawful)) n)

place_of_lem : (r : Record) (s : Satellite) → Made r s → finite_method s.model.method ≡ true → finite_place s.place ≡ true
unfolding newly
place_of_lem r s m h = subst (λ p. finite_place p ≡ true) (sym (ap (λ (z : Satellite). z.place) m.newly_opened)) (place_finite s.model.method h)

pub all_finite : (r : Record) (s : Satellite) → open_of r ≡ Ok s → finite_satellite s ≡ true
unfolding finite_satellite finite_record
all_finite r s e =
    let m = made r s e in
    let a = finite_near s.model.near in
    let b = finite_method s.model.method in
    let k = finite_kept s.model.near.kept in
    let ab : a && b ≡ true = left (a && b) (finite (greenwich_of m.when.0)) m.finite_record_lem in
    both (a && b && k) (finite_place s.place) (both (a && b) k ab (kept_of r s m (left a b ab))) (place_of_lem r s m (right a b ab))
