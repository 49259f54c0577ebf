-- A satellite in memory that a caller lends: 83 f64s and 6 whole numbers of 32 bits. Definitions only.
--
--   numbers  0-1 xli, xni of the saved position; 2-8 elements; 9-17 drag; 18-23 higher; 24-27 rates; 28-32 terms; 33-35 kept;
--            36-40 secular rates; 41-52 Sun; 53-64 Moon; 65-66 zmos, zmol; 67-72 integrator; 73-82 its coefficients
--   marks    0 side; 1 stride number; 2 isimp; 3 kind; 4-5 the epoch's instant, its low and its high 32 bits
--
-- A near-Earth satellite has +0.0 from 36 on, and one that has fewer than ten coefficients after them.
use Rattle.std.specs.Prelude.{ℕ, ◌+◌, ◌*◌, ◌/◌, ◌%◌, Bool, true, false, cond, not, ◌||◌, List, [], ◌∷◌, ◌++◌, eqb, ltb, length, drop, get_or, replicate, pos, Float, None, Option, Some}
use Rattle.std.specs.Float.{nan, fin}
use Rattle.instant.specs.declared.Instant.{Instant}
use Rattle.satellite.specs.declared.Elements.{Elements}
use Rattle.satellite.specs.declared.Drag.{Drag}
use Rattle.satellite.specs.declared.Higher.{Higher}
use Rattle.satellite.specs.declared.Rates.{Rates}
use Rattle.satellite.specs.declared.Terms.{Terms}
use Rattle.satellite.specs.declared.Kept.{Kept}
use Rattle.satellite.specs.declared.NearEarth.{NearEarth}
use Rattle.satellite.specs.declared.SecularRates.{SecularRates}
use Rattle.satellite.specs.declared.Periodics.{Periodics}
use Rattle.satellite.specs.declared.LunarSolar.{LunarSolar}
use Rattle.satellite.specs.declared.OneDay.{OneDay}
use Rattle.satellite.specs.declared.HalfDay.{HalfDay}
use Rattle.satellite.specs.declared.Resonance.{Resonance}
use Rattle.satellite.specs.declared.Resonance.TheVariants as resonance
use Rattle.satellite.specs.declared.Integrator.{Integrator}
use Rattle.satellite.specs.declared.DeepSpace.{DeepSpace}
use Rattle.satellite.specs.declared.Method.{Method}
use Rattle.satellite.specs.declared.Method.TheVariants as method
use Rattle.satellite.specs.declared.Model.{Model}
use Rattle.resonance.specs.declared.place.Place.{Place}
use Rattle.resonance.specs.declared.place.Side.{Side}
use Rattle.resonance.specs.declared.place.Side.TheVariants as side
use Rattle.opening.specs.declared.opening.Satellite.{Satellite}

-- ── a satellite's numbers and marks ──

-- +0.0, n times
abbrev zeros : ℕ → List Float
zeros n = replicate n (fin false 0 (pos 0))

abbrev pub elements_numbers : Elements → List Float
elements_numbers e = e.bstar ∷ e.ecco ∷ e.argpo ∷ e.inclo ∷ e.mo ∷ e.no ∷ e.nodeo ∷ []

abbrev pub drag_numbers : Drag → List Float
drag_numbers d = d.eta ∷ d.cc1 ∷ d.cc4 ∷ d.cc5 ∷ d.omgcof ∷ d.xmcof ∷ d.t2cof ∷ d.delmo ∷ d.sinmao ∷ []

abbrev pub higher_numbers : Higher → List Float
higher_numbers h = h.d2 ∷ h.d3 ∷ h.d4 ∷ h.t3cof ∷ h.t4cof ∷ h.t5cof ∷ []

abbrev pub rates_numbers : Rates → List Float
rates_numbers r = r.mdot ∷ r.argpdot ∷ r.nodedot ∷ r.nodecf ∷ []

abbrev pub terms_numbers : Terms → List Float
terms_numbers t = t.con41 ∷ t.x1mth2 ∷ t.x7thm1 ∷ t.xlcof ∷ t.aycof ∷ []

abbrev pub kept_numbers : Kept → List Float
kept_numbers k = k.ao ∷ k.sinio ∷ k.cosio ∷ []

abbrev pub secular_numbers : SecularRates → List Float
secular_numbers r = r.dedt ∷ r.didt ∷ r.dmdt ∷ r.dnodt ∷ r.domdt ∷ []

abbrev pub periodics_numbers : Periodics → List Float
periodics_numbers p = p.e2 ∷ p.e3 ∷ p.i2 ∷ p.i3 ∷ p.l2 ∷ p.l3 ∷ p.l4 ∷ p.gh2 ∷ p.gh3 ∷ p.gh4 ∷ p.h2 ∷ p.h3 ∷ []

-- a satellite near the Earth, and what a deep-space satellite has of it
unfoldable pub near_numbers : NearEarth → List Float
near_numbers n =
    (elements_numbers n.elements ++ drag_numbers n.drag)
    ++ (higher_numbers n.higher ++ rates_numbers n.rates ++ terms_numbers n.terms ++ kept_numbers n.kept)

unfoldable pub lunar_solar_numbers : LunarSolar → List Float
lunar_solar_numbers p = periodics_numbers p.sun ++ periodics_numbers p.moon ++ (p.zmos ∷ p.zmol ∷ [])

abbrev pub coefficients : Resonance → List Float
coefficients resonance.None = zeros 10
coefficients (resonance.OneDay d) = (d.del1 ∷ d.del2 ∷ d.del3 ∷ []) ++ zeros 7
coefficients (resonance.HalfDay d) = d.d2201 ∷ d.d2211 ∷ d.d3210 ∷ d.d3222 ∷ d.d4410 ∷ d.d4422 ∷ d.d5220 ∷ d.d5232 ∷ d.d5421 ∷ d.d5433 ∷ []

abbrev pub start_numbers : Integrator → List Float
start_numbers i = i.xlamo ∷ i.xfact ∷ i.no ∷ i.argpo ∷ i.argpdot ∷ i.gsto ∷ []

unfoldable pub integrator_numbers : Integrator → List Float
integrator_numbers i = start_numbers i ++ coefficients i.resonance

unfoldable pub deep_numbers : DeepSpace → List Float
deep_numbers d = secular_numbers d.rates ++ lunar_solar_numbers d.periodics ++ integrator_numbers d.integrator

unfoldable pub method_numbers : Method → List Float
method_numbers method.NearEarth = zeros 47
method_numbers (method.DeepSpace d) = deep_numbers d

unfoldable pub model_numbers : Model → List Float
model_numbers k = near_numbers k.near ++ method_numbers k.method

unfoldable pub place_numbers : Place → List Float
place_numbers p = p.xli ∷ p.xni ∷ []

unfoldable pub numbers_of : Satellite → List Float
numbers_of s = place_numbers s.place ++ model_numbers s.model

-- the side: 0 forward, 1 back
abbrev pub side_mark : Side → ℕ
side_mark side.Forward = 0
side_mark side.Back = 1

abbrev pub isimp_mark : Bool → ℕ
isimp_mark false = 0
isimp_mark true = 1

-- the kind: 0 near Earth, 1 deep space without resonance, 2 one-day, 3 half-day
abbrev pub resonance_mark : Resonance → ℕ
resonance_mark resonance.None = 1
resonance_mark (resonance.OneDay d) = 2
resonance_mark (resonance.HalfDay d) = 3

abbrev pub method_mark : Method → ℕ
method_mark method.NearEarth = 0
method_mark (method.DeepSpace d) = resonance_mark d.integrator.resonance

-- an instant: its low and its high 32 bits
abbrev pub epoch_marks : Instant → List ℕ
epoch_marks t = t.0 % 4294967296 ∷ t.0 / 4294967296 ∷ []

unfoldable pub model_marks : Model → List ℕ
model_marks k = isimp_mark k.near.isimp ∷ method_mark k.method ∷ epoch_marks k.epoch

unfoldable pub place_marks : Place → List ℕ
place_marks p = side_mark p.side ∷ p.strides.0 ∷ []

unfoldable pub marks_of : Satellite → List ℕ
marks_of s = place_marks s.place ++ model_marks s.model

-- ── the satellite that lies in memory: any numbers and marks are one ──

abbrev pub elements_at : List Float → Elements
elements_at ns = record {
  bstar = get_or ns 2 nan;
  ecco = get_or ns 3 nan;
  argpo = get_or ns 4 nan;
  inclo = get_or ns 5 nan;
  mo = get_or ns 6 nan;
  no = get_or ns 7 nan;
  nodeo = get_or ns 8 nan;
}

abbrev pub drag_at : List Float → Drag
drag_at ns = record {
  eta = get_or ns 9 nan;
  cc1 = get_or ns 10 nan;
  cc4 = get_or ns 11 nan;
  cc5 = get_or ns 12 nan;
  omgcof = get_or ns 13 nan;
  xmcof = get_or ns 14 nan;
  t2cof = get_or ns 15 nan;
  delmo = get_or ns 16 nan;
  sinmao = get_or ns 17 nan;
}

abbrev pub higher_at : List Float → Higher
higher_at ns = record {
  d2 = get_or ns 18 nan;
  d3 = get_or ns 19 nan;
  d4 = get_or ns 20 nan;
  t3cof = get_or ns 21 nan;
  t4cof = get_or ns 22 nan;
  t5cof = get_or ns 23 nan;
}

abbrev pub rates_at : List Float → Rates
rates_at ns = record { mdot = get_or ns 24 nan; argpdot = get_or ns 25 nan; nodedot = get_or ns 26 nan; nodecf = get_or ns 27 nan }

abbrev pub terms_at : List Float → Terms
terms_at ns = record { con41 = get_or ns 28 nan; x1mth2 = get_or ns 29 nan; x7thm1 = get_or ns 30 nan; xlcof = get_or ns 31 nan; aycof = get_or ns 32 nan }

abbrev pub kept_at : List Float → Kept
kept_at ns = record { ao = get_or ns 33 nan; sinio = get_or ns 34 nan; cosio = get_or ns 35 nan }

unfoldable pub near_earth_at : List Float → Bool → NearEarth
near_earth_at ns b = record {
  elements = elements_at ns;
  isimp = b;
  drag = drag_at ns;
  higher = higher_at ns;
  rates = rates_at ns;
  terms = terms_at ns;
  kept = kept_at ns;
}

abbrev pub secular_at : List Float → SecularRates
secular_at ns = record { dedt = get_or ns 36 nan; didt = get_or ns 37 nan; dmdt = get_or ns 38 nan; dnodt = get_or ns 39 nan; domdt = get_or ns 40 nan }

abbrev pub periodics_at : List Float → ℕ → Periodics
periodics_at ns at = record {
  e2 = get_or ns at nan;
  e3 = get_or ns (at + 1) nan;
  i2 = get_or ns (at + 2) nan;
  i3 = get_or ns (at + 3) nan;
  l2 = get_or ns (at + 4) nan;
  l3 = get_or ns (at + 5) nan;
  l4 = get_or ns (at + 6) nan;
  gh2 = get_or ns (at + 7) nan;
  gh3 = get_or ns (at + 8) nan;
  gh4 = get_or ns (at + 9) nan;
  h2 = get_or ns (at + 10) nan;
  h3 = get_or ns (at + 11) nan;
}

unfoldable pub lunar_solar_at : List Float → LunarSolar
lunar_solar_at ns = record { sun = periodics_at ns 41; moon = periodics_at ns 53; zmos = get_or ns 65 nan; zmol = get_or ns 66 nan }

abbrev pub one_day_at : List Float → OneDay
one_day_at ns = record { del1 = get_or ns 73 nan; del2 = get_or ns 74 nan; del3 = get_or ns 75 nan }

abbrev pub half_day_at : List Float → HalfDay
half_day_at ns = record {
  d2201 = get_or ns 73 nan;
  d2211 = get_or ns 74 nan;
  d3210 = get_or ns 75 nan;
  d3222 = get_or ns 76 nan;
  d4410 = get_or ns 77 nan;
  d4422 = get_or ns 78 nan;
  d5220 = get_or ns 79 nan;
  d5232 = get_or ns 80 nan;
  d5421 = get_or ns 81 nan;
  d5433 = get_or ns 82 nan;
}

-- the kind 1 is no resonance, 2 one-day, any other number half-day
unfoldable pub resonance_at : List Float → ℕ → Resonance
resonance_at ns k = cond (eqb k 1) resonance.None (cond (eqb k 2) (resonance.OneDay (one_day_at ns)) (resonance.HalfDay (half_day_at ns)))

unfoldable pub integrator_at : List Float → ℕ → Integrator
integrator_at ns k = record {
  resonance = resonance_at ns k;
  xlamo = get_or ns 67 nan;
  xfact = get_or ns 68 nan;
  no = get_or ns 69 nan;
  argpo = get_or ns 70 nan;
  argpdot = get_or ns 71 nan;
  gsto = get_or ns 72 nan;
}

unfoldable pub deep_space_at : List Float → ℕ → DeepSpace
deep_space_at ns k = record { rates = secular_at ns; periodics = lunar_solar_at ns; integrator = integrator_at ns k }

-- the kind 0 is near Earth
unfoldable pub method_at : List Float → ℕ → Method
method_at ns k = cond (eqb k 0) method.NearEarth (method.DeepSpace (deep_space_at ns k))

-- 0 is forward, any other number back
unfoldable pub side_at : ℕ → Side
side_at m = cond (eqb m 0) side.Forward side.Back

unfoldable pub place_at : List Float → List ℕ → Place
place_at ns ms = record { side = side_at (get_or ms 0 0); strides = record { 0 = get_or ms 1 0 }; xli = get_or ns 0 nan; xni = get_or ns 1 nan }

-- any two marks are an instant
abbrev pub epoch_at : ℕ → ℕ → Instant
epoch_at low high = record { 0 = low + 4294967296 * high }

-- isimp is 0 where the mark is, and 1 at any other number
unfoldable pub model_at : List Float → List ℕ → Model
model_at ns ms = record { near = near_earth_at ns (not (eqb (get_or ms 2 0) 0)); method = method_at ns (get_or ms 3 0); epoch = epoch_at (get_or ms 4 0) (get_or ms 5 0) }

unfoldable pub satellite_of : List Float → List ℕ → Satellite
satellite_of ns ms = record { model = model_at ns ms; place = place_at ns ms }

-- ── what loading gives and what storing leaves: document 01's refusal 17 where the memory is too short, and nothing is written ──

unfoldable pub too_short : ℕ → ℕ → Bool
too_short n m = ltb n 83 || ltb m 6

unfoldable pub loading_of : List Float → List ℕ → Option Satellite
loading_of ns ms = cond (too_short (length ns) (length ms)) None (Some (satellite_of ns ms))

-- document 01's number of each answer; nothing comes back with it
abbrev pub loading_number : Option Satellite → ℕ
loading_number (Some s) = 0
loading_number None = 17

-- what storing answers has the same number
unfoldable pub store_refusal : ℕ → ℕ → ℕ
store_refusal n m = cond (too_short n m) 17 0

-- what lies past a satellite stays
unfoldable pub stored_numbers : Satellite → List Float → List ℕ → List Float
stored_numbers s ns ms = cond (too_short (length ns) (length ms)) ns (numbers_of s ++ drop 83 ns)

unfoldable pub stored_marks : Satellite → List Float → List ℕ → List ℕ
stored_marks s ns ms = cond (too_short (length ns) (length ms)) ms (marks_of s ++ drop 6 ms)

unfoldable pub placed_numbers : Place → List Float → List ℕ → List Float
placed_numbers p ns ms = cond (too_short (length ns) (length ms)) ns (place_numbers p ++ drop 2 ns)

unfoldable pub placed_marks : Place → List Float → List ℕ → List ℕ
placed_marks p ns ms = cond (too_short (length ns) (length ms)) ms (place_marks p ++ drop 2 ms)
