-- How large the changes between two rosters can be.
use Prim.Native.Nat.{ℕ, zero, suc, ◌+◌, ◌-◌, ◌^◌, ◌<◌}
use mathlib.Core.Path.{◌≡◌, refl}
use mathlib.Core.Bool.{Bool, true, false, cond, not, ◌&&◌, ◌||◌}
use mathlib.Core.List.{List, [], ◌∷◌, ◌++◌}
use native.Mathlib.Omega.{arith}
use borrow.Author.Tests.{ltb-true}
use lib.Dec.{eqb, ltb}
use lib.IntN.{ℤ, pos, negsuc, nat_abs, sub_ℕ, ◌-ℤ◌}
use Rattle.instant.proofs.Theorems.{epoch_inside, end_of_calendar}
use Rattle.tle.specs.Legal.{legal, scaled_fits}
use Rattle.tle.specs.declared.Scaled.{Scaled}
use Rattle.tle.specs.declared.Record.{Record}
use Rattle.tle_writer.proofs.Facts.{Facts, facts, both}
use Rattle.roster.specs.Records.{Rising, end, next, instant_of}
use Rattle.changes.specs.Entry.{Count, Ephemeris, Element, Inclination, Node, Eccentricity, Perigee, Anomaly, Motion, Revolution, in_order, count, Entry, Classes, Designators, Epochs, Ndots, Nddots, Bstars, Counts, sameℤ, same_class, same_designator, same_scaled, unless, counts, differences}
use Rattle.changes.specs.Changes.{Change, First, Second, fields, seconds, against, listed}
use Rattle.changes.specs.Claims.{digits, Bounded, AllBounded, ListedAreBounded}
use Rattle.changes.proofs.Fields.{year_in_lem}

-- ── of two records ──

abbrev pub Every : List Entry → Type 0
Every [] = Unit {0}
Every (e ∷ es) = Bounded e × Every es

every_unless : (t : Bool) (e : Entry) (es : List Entry) → Bounded e → Every es → Every (unless t e ++ es)
every_unless true e es h g = g
every_unless false e es h g = (h, g)

pub sub_small : (m x y : ℕ) → x < m → y < m → nat_abs (sub_ℕ y x) < m
sub_small m x y h g = by (ltb y x) refl
  where
    by : (t : Bool) → ltb y x ≡ t → nat_abs (cond t (negsuc (x - suc y)) (pos (y - x))) < m
    by true e = omega (arith, ltb-true y x e)
    by false e = omega arith

less_small : (x y : ℤ) → nat_abs x < 100000000 → nat_abs y < 100000000 → nat_abs (y -ℤ x) < 1000000000
less_small (pos zero) (pos b) h g = omega arith
less_small (pos (suc a)) (pos b) h g = sub_small 1000000000 (suc a) b (omega arith) (omega arith)
less_small (pos zero) (negsuc b) h g = sub_small 1000000000 (suc b) 0 (omega arith) (omega arith)
less_small (pos (suc a)) (negsuc b) h g = omega arith
less_small (negsuc a) (pos b) h g = omega arith
less_small (negsuc a) (negsuc b) h g = sub_small 1000000000 (suc b) (suc a) (omega arith) (omega arith)

-- five digits and one
pub scaled_small : (s : Scaled) → scaled_fits s ≡ true → (nat_abs s.mantissa < 100000) × (nat_abs s.exponent < 10)
unfolding scaled_fits
scaled_small s h =
    let p = both (ltb (nat_abs s.mantissa) 100000 && ltb (nat_abs s.exponent) 10) (not (eqb (nat_abs s.mantissa) 0) || eqb (nat_abs s.exponent) 0) h in
    let q = both (ltb (nat_abs s.mantissa) 100000) (ltb (nat_abs s.exponent) 10) p.0 in
    (ltb-true (nat_abs s.mantissa) 100000 q.0, ltb-true (nat_abs s.exponent) 10 q.1)

instant_small : (r : Record) → Facts r → instant_of r < 10000000000000000
unfolding instant_of
instant_small r F = omega (arith, end_of_calendar, (epoch_inside r.year r.day (year_in_lem r F) F.day).1)

module _ (a b : Record) (A : Facts a) (B : Facts b) where
  count_bounded : (c : Count) (es : List Entry) → count c a < 10 ^ digits c → count c b < 10 ^ digits c → Every es
      → Every (unless (eqb (count c a) (count c b)) (Counts c (sub_ℕ (count c b) (count c a))) ++ es)
  count_bounded c es h g f =
      every_unless (eqb (count c a) (count c b)) (Counts c (sub_ℕ (count c b) (count c a))) es (sub_small (10 ^ digits c) (count c a) (count c b) h g) f

  counts_bounded : Every (counts in_order a b)
  counts_bounded =
      count_bounded Ephemeris _ A.ephemeris B.ephemeris
      (count_bounded Element _ A.element B.element
      (count_bounded Inclination _ (omega (arith, A.inclination)) (omega (arith, B.inclination))
      (count_bounded Node _ (omega (arith, A.node)) (omega (arith, B.node))
      (count_bounded Eccentricity _ A.eccentricity B.eccentricity
      (count_bounded Perigee _ (omega (arith, A.perigee)) (omega (arith, B.perigee))
      (count_bounded Anomaly _ (omega (arith, A.anomaly)) (omega (arith, B.anomaly))
      (count_bounded Motion _ A.motion B.motion
      (count_bounded Revolution [] A.revolution B.revolution tt))))))))

  pub differences_bounded : Every (differences a b)
  unfolding differences
  differences_bounded =
      every_unless (same_class a.class b.class) (Classes a.class b.class) _ tt
      (every_unless (same_designator a.designator b.designator) (Designators a.designator b.designator) _ (A.designator, B.designator)
      (every_unless (eqb (instant_of a) (instant_of b)) (Epochs (sub_ℕ (instant_of b) (instant_of a))) _
      (sub_small (10 ^ 16) (instant_of a) (instant_of b) (instant_small a A) (instant_small b B))
      (every_unless (sameℤ a.ndot b.ndot) (Ndots (b.ndot -ℤ a.ndot)) _ (less_small a.ndot b.ndot A.ndot B.ndot)
      (every_unless (same_scaled a.nddot b.nddot) (Nddots a.nddot b.nddot) _ (A.nddot, B.nddot)
      (every_unless (same_scaled a.bstar b.bstar) (Bstars a.bstar b.bstar) _ (A.bstar, B.bstar)
      counts_bounded)))))

-- ── of two rosters ──

all_append : (cs ds : List Change) → AllBounded cs → AllBounded ds → AllBounded (cs ++ ds)
all_append [] ds h g = g
all_append (c ∷ cs) ds h g = (h.0, all_append cs ds h.1 g)

all_fields : (n : ℕ) (es : List Entry) → n < 340000 → Every es → AllBounded (fields n es)
unfolding fields
all_fields n [] h g = tt
all_fields n (e ∷ es) h g = ((h, g.0), all_fields n es h g.1)

all_seconds : {low : ℕ} {bs : List Record} → Rising low bs → AllBounded (seconds bs)
unfolding seconds
all_seconds end = tt
all_seconds (next g l q) = (l, all_seconds q)

all_cond : (x y : Bool) (cs ds es : List Change) → AllBounded cs → AllBounded ds → AllBounded es → AllBounded (cond x cs (cond y ds es))
all_cond true y cs ds es h g f = h
all_cond false true cs ds es h g f = g
all_cond false false cs ds es h g f = f

-- rest: bounded against every list by rising number
all_against : (a : Record) (rest : List Record → List Change) → legal a ≡ true
    → ((low : ℕ) (l : List Record) → Rising low l → AllBounded (rest l)) → {low : ℕ} {bs : List Record} → Rising low bs → AllBounded (against a rest bs)
unfolding against
all_against a rest h f end = (h, f 0 [] end)
all_against a rest h f {low} (next {r = b} {rs = bs} g l q) =
    let A = facts a h in
    all_cond (ltb b.number a.number) (eqb b.number a.number) (Second b ∷ against a rest bs) (fields a.number (differences a b) ++ rest bs) (First a ∷ rest (b ∷ bs))
    (l, all_against a rest h f q)
    (all_append (fields a.number (differences a b)) (rest bs)
    (all_fields a.number (differences a b) A.number (differences_bounded a b A (facts b l))) (f (b.number + 1) bs q))
    (h, f low (b ∷ bs) (next g l q))

all_listed : {low : ℕ} {xs : List Record} → Rising low xs → (m : ℕ) (bs : List Record) → Rising m bs → AllBounded (listed xs bs)
unfolding listed
all_listed end m bs q = all_seconds q
all_listed (next {r = a} {rs = xs} g l p) m bs q = all_against a (λ l. listed xs l) l (λ low l k. all_listed p low l k) q

pub listed_are_bounded : ListedAreBounded
listed_are_bounded xs bs p q = all_listed p 0 bs q
