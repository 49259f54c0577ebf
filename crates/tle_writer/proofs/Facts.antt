-- What `in_form` says of each field, and what `legal` does; a legal record is in form.
use Prim.Native.Nat.{ℕ, ◌<◌, ◌≤◌, ◌^◌}
use mathlib.Core.Path.{◌≡◌, refl}
use mathlib.Core.Bool.{Bool, true, false, ◌&&◌}
use mathlib.Core.List.{List, [], ◌∷◌}
use native.Mathlib.Omega.{arith}
use borrow.Author.Tests.{ltb-true, leb-true, lt-ltb}
use lib.Dec.{ltb, leb}
use lib.IntN.{nat_abs}
use Rattle.instant.specs.Calendar.{day_in_range}
use Rattle.instant.proofs.Calendar.{day_bounds}
use Rattle.tle.specs.Legal.{legal, in_layout, in_places, in_form, in_ranges, designator_fits, scaled_fits}
use Rattle.tle.specs.declared.Record.{Record}

-- what columns hold of each field, its range left out
pub record Held (r : Record) : Type 0 where
  pub number : r.number < 340000
  pub designator : designator_fits r.designator ≡ true
  pub year_low : 1957 ≤ r.year
  pub year_high : r.year ≤ 2056
  pub ndot : nat_abs r.ndot < 10 ^ 8
  pub nddot : scaled_fits r.nddot ≡ true
  pub bstar : scaled_fits r.bstar ≡ true
  pub ephemeris : r.ephemeris < 10 ^ 1
  pub element : r.element < 10 ^ 4
  pub eccentricity : r.eccentricity < 10 ^ 7
  pub motion : r.motion < 10 ^ 10
  pub revolution : r.revolution < 10 ^ 5
  pub day : r.day < 10 ^ 11
  pub inclination : r.inclination < 10 ^ 7
  pub node : r.node < 10 ^ 7
  pub perigee : r.perigee < 10 ^ 7
  pub anomaly : r.anomaly < 10 ^ 7

-- a chain of tests: each holds where all do
abbrev chain : Bool → List Bool → Bool
chain a [] = a
chain a (b ∷ bs) = chain (a && b) bs

abbrev Each : List Bool → Type 0
Each [] = Unit
Each (b ∷ bs) = (b ≡ true) × Each bs

pub both : (a b : Bool) → a && b ≡ true → (a ≡ true) × (b ≡ true)
both true b h = (refl, h)
both false b h = let z : ◌≡◌ {A = ℕ} 0 1 = cc in absurd (omega arith)

each : (a : Bool) (bs : List Bool) → chain a bs ≡ true → (a ≡ true) × Each bs
each a [] h = (h, tt)
each a (b ∷ bs) h =
    let t = each (a && b) bs h in
    let s = both a b t.0 in
    (s.0, (s.1, t.1))

pub formed : (r : Record) → in_form r ≡ true → Held r
unfolding in_form in_layout in_places
formed r h =
    let t = both (in_layout r) (in_places r) h in
    let l = each (ltb r.number 340000) (designator_fits r.designator ∷ leb 1957 r.year ∷ leb r.year 2056
    ∷ ltb (nat_abs r.ndot) 100000000 ∷ scaled_fits r.nddot ∷ scaled_fits r.bstar ∷ ltb r.ephemeris 10
    ∷ ltb r.element 10000 ∷ ltb r.eccentricity 10000000 ∷ ltb r.motion 10000000000 ∷ ltb r.revolution 100000 ∷ []) t.0 in
    let m = l.1.1.1.1 in
    let n = m.1.1.1 in
    let g = each (ltb r.day 100000000000) (ltb r.inclination 10000000 ∷ ltb r.node 10000000
    ∷ ltb r.perigee 10000000 ∷ ltb r.anomaly 10000000 ∷ []) t.1 in
    record {
      number = ltb-true _ _ l.0;
      designator = l.1.0;
      year_low = leb-true _ _ l.1.1.0;
      year_high = leb-true _ _ l.1.1.1.0;
      ndot = ltb-true _ _ m.0;
      nddot = m.1.0;
      bstar = m.1.1.0;
      ephemeris = ltb-true _ _ n.0;
      element = ltb-true _ _ n.1.0;
      eccentricity = ltb-true _ _ n.1.1.0;
      motion = ltb-true _ _ n.1.1.1.0;
      revolution = ltb-true _ _ n.1.1.1.1.0;
      day = ltb-true _ _ g.0;
      inclination = ltb-true _ _ g.1.0;
      node = ltb-true _ _ g.1.1.0;
      perigee = ltb-true _ _ g.1.1.1.0;
      anomaly = ltb-true _ _ g.1.1.1.1.0;
    }

-- each range by itself
pub record Ranges (r : Record) : Type 0 where
  pub day : day_in_range r.year r.day ≡ true
  pub inclination : leb r.inclination 1800000 ≡ true
  pub node : ltb r.node 3600000 ≡ true
  pub perigee : ltb r.perigee 3600000 ≡ true
  pub anomaly : ltb r.anomaly 3600000 ≡ true
  pub motion : ltb 0 r.motion ≡ true

pub ranges : (r : Record) → in_ranges r ≡ true → Ranges r
unfolding in_ranges
ranges r h =
    let g = each (day_in_range r.year r.day) (leb r.inclination 1800000 ∷ ltb r.node 3600000
    ∷ ltb r.perigee 3600000 ∷ ltb r.anomaly 3600000 ∷ ltb 0 r.motion ∷ []) h in
    record {
      day = g.0;
      inclination = g.1.0;
      node = g.1.1.0;
      perigee = g.1.1.1.0;
      anomaly = g.1.1.1.1.0;
      motion = g.1.1.1.1.1.0;
    }

-- what is in range is in its places
in_places_lem : (r : Record) → Ranges r → in_places r ≡ true
unfolding in_places
in_places_lem r g =
    rw (
      lt-ltb r.day 100000000000 (omega (arith, day_bounds r.year r.day g.day)),
      lt-ltb r.inclination 10000000 (omega (arith, leb-true r.inclination 1800000 g.inclination)),
      lt-ltb r.node 10000000 (omega (arith, ltb-true r.node 3600000 g.node)),
      lt-ltb r.perigee 10000000 (omega (arith, ltb-true r.perigee 3600000 g.perigee)),
      lt-ltb r.anomaly 10000000 (omega (arith, ltb-true r.anomaly 3600000 g.anomaly)),
    )

pub legal_in_form : (r : Record) → legal r ≡ true → in_form r ≡ true
unfolding legal in_form
legal_in_form r h =
    let t = both (in_layout r) (in_ranges r) h in
    rw t.0 (in_places_lem r (ranges r t.1))

-- a legal record: what columns hold, and the ranges
pub record Facts (r : Record) : Type 0 where
  pub number : r.number < 340000
  pub designator : designator_fits r.designator ≡ true
  pub year_low : 1957 ≤ r.year
  pub year_high : r.year ≤ 2056
  pub ndot : nat_abs r.ndot < 10 ^ 8
  pub nddot : scaled_fits r.nddot ≡ true
  pub bstar : scaled_fits r.bstar ≡ true
  pub ephemeris : r.ephemeris < 10 ^ 1
  pub element : r.element < 10 ^ 4
  pub eccentricity : r.eccentricity < 10 ^ 7
  pub motion : r.motion < 10 ^ 10
  pub revolution : r.revolution < 10 ^ 5
  pub day : day_in_range r.year r.day ≡ true
  pub inclination : r.inclination ≤ 1800000
  pub node : r.node < 3600000
  pub perigee : r.perigee < 3600000
  pub anomaly : r.anomaly < 3600000
  pub turns : 0 < r.motion

pub facts : (r : Record) → legal r ≡ true → Facts r
unfolding legal
facts r h =
    let k = formed r (legal_in_form r h) in
    let g = ranges r (both (in_layout r) (in_ranges r) h).1 in
    record {
      number = k.number;
      designator = k.designator;
      year_low = k.year_low;
      year_high = k.year_high;
      ndot = k.ndot;
      nddot = k.nddot;
      bstar = k.bstar;
      ephemeris = k.ephemeris;
      element = k.element;
      eccentricity = k.eccentricity;
      motion = k.motion;
      revolution = k.revolution;
      day = g.day;
      inclination = leb-true _ _ g.inclination;
      node = ltb-true _ _ g.node;
      perigee = ltb-true _ _ g.perigee;
      anomaly = ltb-true _ _ g.anomaly;
      turns = ltb-true _ _ g.motion;
    }
