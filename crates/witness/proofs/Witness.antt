-- Both pairs open as claimed: all of reading and opening is computed, from the bytes to the last coefficient.
use Prim.Native.Nat.{ℕ, suc}
use native.Mathlib.Omega.{arith}
use mathlib.Core.Path.{◌≡◌, refl}
use mathlib.Core.Bool.{true}
use lib.Ieee.{round, neg, add, sub, mul, div, rem, lt, le, eq, ne, of_bits, to_bits}
use Rattle.elementary.specs.Notation.{finite}
use Rattle.elementary.specs.Root.{isqrt, near_root, units_in, root_of, sqrt_of}
use Rattle.elementary.specs.Cube.{icbrt, near_cube, cbrt_normal, normal, cbrt_of}
use Rattle.elementary.specs.Power.{pow23, pow35, abs_of}
use Rattle.elementary.specs.Trig.{turned, wrapped, folded, signed, sin_poly, cos_poly, sin_of, cos_of}
use Rattle.elementary.specs.Angle.{halved, series, arctan, quarter, placed, atan2_of}
use Rattle.instant.specs.Quantity.{over, decimal_of, powered_of, scaled_of, deg2rad, radians_of}
use Rattle.instant.specs.Calendar.{days_in, days_before, last_day, day_in_range, year_in_range, epoch_micros, epoch_of}
use Rattle.instant.specs.Greenwich.{epoch_days_of, julian_of, rate, sidereal_of, quadrant, gstime_of, greenwich_of}
use Rattle.columns.specs.Layout.{agreed}
use Rattle.columns.specs.Sum.{digit_of, sum}
use Rattle.tle.specs.Number as number
use Rattle.columns.specs.FirstPlace.{position, first_of}
use Rattle.tle.specs.Catalogue.{catalogue_of}
use Rattle.tle.specs.Legal.{in_ranges, designator_fits, scaled_fits, in_layout, legal}
use Rattle.tle.specs.Read.{verdict_of, number_at, pair_of, class_of, designator_at, year_of, ndot_at, scaled_at, day_at, motion_at, degrees_at, fields_of, form_of, ranges_of, read_of}
use Rattle.wgs72.specs.Getgravconst.{xke, j3oj2}
use Rattle.wgs72.specs.Computed.{temp4, ss, qzms2t, x2o3}
use Rattle.satellite.specs.declared.Resonance.{Resonance}
use Rattle.satellite.specs.declared.Resonance.TheVariants as kinds
use Rattle.near_earth.specs.Powers.{pow3, pow4}
use Rattle.near_earth.specs.Initl.{unkozai, initl, guard, deep_space}
use Rattle.near_earth.specs.Sgp4init as near
use Rattle.near_earth.specs.Finite as nearFinite
use Rattle.lunar_solar.specs.Dscom.{angles_of, shape_of, day_of, gam_of, sun_of, lunar_of, moon_of, axes_of, z_of, s_of, pass_of, periodics_of, zmol_of, zmos_of, both_of, dscom_from, dscom_of}
use Rattle.lunar_solar.specs.Dsinit.{rates_of, guarded_of, joined_by, joined_of, secular_of}
use Rattle.periodics.specs.Dpper.{dpper_of}
use Rattle.lunar_solar.specs.Finite as bodyFinite
use Rattle.resonance_terms.specs.Dsinit.{one_day, half_day, one_day_of, g520_of, low_of, high_of, inclined_of, half_day_sum, half_day_of, kind_of, theta_of, half_day_start, one_day_start, start_of, aonv_of, dsinit_from, dsinit_of}
use Rattle.resonance_terms.specs.Finite.{finite_one_day, finite_half_day, finite_kind, finite_integrator}
use Rattle.resonance.specs.Time.{resonant}
use Rattle.std.specs.Prelude.{Err, Ok, Result}
use Rattle.opening.specs.declared.opening.Satellite.{Satellite}
use Rattle.opening.specs.declared.opening.PairRefusal.{PairRefusal}
use Rattle.opening.specs.declared.opening.PairRefusal.TheVariants as pair
use Rattle.opening.specs.Elements.{xpdotp, bstar_of, elements_of}
use Rattle.opening.specs.DeepSpace.{common, unchanged, set_up, orbit, at_epoch, deep_space_of}
use Rattle.opening.specs.Opening.{model_of, newly, finite_deep, finite_method, finite_record, checked, above, started, dated, open_of, opened, after_reading, open_pair_of}
use Rattle.opening.proofs.Made.{made_of}
use Rattle.sgp4.specs.Sgp4.{integrator_by, integrator_of}
use Rattle.sequences.proofs.Edges.{edges_hold}
use Rattle.witness.specs.Witness.{Pair, italsat, molniya, irez, Opens, Witnessed}

-- the kind of resonance of what two lines open to; 0 where they do not
kind_in : Result Satellite PairRefusal → ℕ
kind_in (Ok s) = irez (integrator_of s.model).resonance
kind_in (Err (pair.Unread why)) = 0
kind_in (Err (pair.Refused why)) = 0

computed : (kind_in (open_pair_of italsat.line1 italsat.line2) ≡ 1) × (kind_in (open_pair_of molniya.line1 molniya.line2) ≡ 2)
unfolding kind_in irez integrator_of integrator_by
    open_pair_of after_reading opened open_of dated started above checked finite_record finite_method finite_deep newly model_of
    read_of form_of ranges_of pair_of verdict_of agreed fields_of number_at catalogue_of first_of position class_of designator_at year_of ndot_at scaled_at day_at motion_at degrees_at
    digit_of sum number.value_on number.minus number.signed
    legal in_layout in_ranges designator_fits scaled_fits
    epoch_of epoch_micros year_in_range day_in_range last_day days_before days_in epoch_days_of julian_of gstime_of greenwich_of sidereal_of rate quadrant
    elements_of bstar_of xpdotp decimal_of scaled_of powered_of over radians_of deg2rad
    xke j3oj2 temp4 ss qzms2t x2o3
    initl unkozai guard deep_space
    near.near_earth near.filled near.zeroed near.recovered near.kept near.simple near.altered near.atmosphere near.shape near.drag near.cc2 near.cc3 near.cc4 near.cc5 near.xmcof near.rates near.terms near.xlcof near.aycof near.higher pow3 pow4
    nearFinite.finite_near nearFinite.finite_elements nearFinite.finite_drag nearFinite.finite_higher nearFinite.finite_rates nearFinite.finite_terms
    deep_space_of common set_up unchanged orbit at_epoch
    dscom_of dscom_from angles_of shape_of day_of gam_of sun_of lunar_of moon_of pass_of axes_of z_of s_of both_of periodics_of zmol_of zmos_of
    secular_of rates_of guarded_of joined_of joined_by dpper_of
    bodyFinite.finite_rates bodyFinite.finite_lunar_solar bodyFinite.finite_periodics
    dsinit_of dsinit_from aonv_of kind_of one_day half_day one_day_of half_day_of inclined_of low_of g520_of high_of half_day_sum theta_of start_of one_day_start half_day_start
    finite_integrator finite_kind finite_one_day finite_half_day
    sin_of cos_of sin_poly cos_poly turned wrapped folded signed sqrt_of root_of units_in near_root isqrt cbrt_of cbrt_normal normal near_cube icbrt pow23 pow35 abs_of atan2_of placed quarter arctan series halved
    finite round neg add sub mul div rem lt le eq ne of_bits to_bits
computed = (refl, refl)

-- an answer of a kind above 0 is a satellite of that kind
kind_resonant : (r : Resonance) (k : ℕ) → irez r ≡ suc k → resonant r ≡ true
unfolding irez
kind_resonant kinds.None k h = absurd (omega (arith, h))
kind_resonant (kinds.OneDay d) k h = refl
kind_resonant (kinds.HalfDay d) k h = refl

of_kind : (p : Pair) (k : ℕ) (x : Result Satellite PairRefusal) → open_pair_of p.line1 p.line2 ≡ x → kind_in x ≡ suc k → Opens p (suc k)
unfolding kind_in
of_kind p k (Ok s) e h =
    let m = made_of p.line1 p.line2 s e in
    record {
      satellite = s;
      opened = e;
      resonance = h;
      strides = edges_hold m.source s m.opens (kind_resonant (integrator_of s.model).resonance k h);
    }
of_kind p k (Err (pair.Unread why)) e h = absurd (omega (arith, h))
of_kind p k (Err (pair.Refused why)) e h = absurd (omega (arith, h))

pub witnessed : Witnessed
witnessed = (
  of_kind italsat 0 (open_pair_of italsat.line1 italsat.line2) refl computed.0,
  of_kind molniya 1 (open_pair_of molniya.line1 molniya.line2) refl computed.1,
)
