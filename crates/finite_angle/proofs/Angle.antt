-- Every number on the way from an instant to its Greenwich angle lies below 2 ^ 103, far from the largest f64.
use Prim.Native.Nat.{ℕ, suc, ◌+◌, ◌*◌, ◌^◌, ◌≤◌, ◌<◌}
use native.Mathlib.Omega.{arith}
use mathlib.Core.Path.{◌≡◌, refl}
use mathlib.Core.Bool.{Bool, true, false, cond}
use lib.Dec.{T, ltb, leb, ltb→lt, leb→le}
use lib.Count.{count_trailing_zeros}
use lib.Ieee.{Float, nan, inf, fin, binary64, emax, round, units, odd, size, span, climb, neg, lt}
use Rattle.elementary.specs.Notation.{◌⊕◌, ◌⊖◌, ◌⊗◌, ◌⊘◌, dec, pi, two_pi, finite}
use Rattle.elementary.specs.Trig.{turned}
use Rattle.instant.specs.Quantity.{deg2rad}
use Rattle.instant.specs.Calendar.{in_calendar}
use Rattle.instant.specs.Greenwich.{epoch_days_of, julian_of, rate, sidereal_of, quadrant, gstime_of, greenwich_of}
use Rattle.instant.proofs.Calendar.{below}
use Rattle.finite_angle.specs.Claims.{FiniteAngle}
use Rattle.finite_angle.proofs.Bounds.{Below, OneUp, round_below, weaker, neg_below, mul_below, add_below, sub_below, div_below, rem_below}

below_finite : (x : Float) (b : ℕ) → Below b x → finite x ≡ true
unfolding finite
below_finite nan b p = absurd p
below_finite (inf s) b p = absurd p
below_finite (fin s m e) b p = refl

-- ---- the operations of binary64, with the bounds computed
abbrev Fine : ℕ → Type 0
Fine b = T (leb b 1000)

fine : (b : ℕ) → Fine b → b ≤ emax binary64
fine b h = let g : b ≤ 1000 = leb→le b 1000 h in omega arith

decimal : (m d b : ℕ) → T (ltb m (2 ^ b * 10 ^ d)) → T (ltb 0 (10 ^ d)) → Fine b → Below (suc b) (dec m d)
decimal m d b h g r = round_below binary64 false m (10 ^ d) b (ltb→lt 0 (10 ^ d) g) (ltb→lt m (2 ^ b * 10 ^ d) h) (fine b r)

times : (x y : Float) (a b : ℕ) → Fine (a + b) → Below a x → Below b y → Below (suc (a + b)) (x ⊗ y)
times x y a b r p q = mul_below binary64 x y a b (fine (a + b) r) p q

-- of a sum the bounds may differ
plus : (x y : Float) (a b c : ℕ) → T (leb a c) → T (leb b c) → Fine (suc c) → Below a x → Below b y → Below (suc (suc c)) (x ⊕ y)
plus x y a b c g h r p q = add_below binary64 x y c (fine (suc c) r) (weaker x a c (leb→le a c g) p) (weaker y b c (leb→le b c h) q)

minus : (x y : Float) (a b c : ℕ) → T (leb a c) → T (leb b c) → Fine (suc c) → Below a x → Below b y → Below (suc (suc c)) (x ⊖ y)
minus x y a b c g h r p q = sub_below binary64 x y c (fine (suc c) r) (weaker x a c (leb→le a c g) p) (weaker y b c (leb→le b c h) q)

over : (x y : Float) (b : ℕ) → Fine b → Below b x → OneUp y → Below (suc b) (x ⊘ y)
over x y b r p q = div_below binary64 x y b (fine b r) p q

century : OneUp (dec 36525 0)
unfolding round units odd size span climb count_trailing_zeros
century = tt

half_turn : OneUp (dec 180 0)
unfolding round units odd size span climb count_trailing_zeros
half_turn = tt

degree : OneUp (dec 240 0)
unfolding round units odd size span climb count_trailing_zeros
degree = tt

turn : OneUp two_pi
unfolding round units odd size span climb count_trailing_zeros
turn = tt

-- ---- from an instant to centuries
julian : (t : ℕ) → in_calendar t ≡ true → Below 25 (julian_of t)
unfolding julian_of epoch_days_of
julian t h =
    let l : t < 3155760000000000 = below t h in
    let d : Below 17 (round binary64 false t 86400000000) = round_below binary64 false t 86400000000 16 (omega arith) (omega arith) (fine 16 tt) in
    let e = plus (round binary64 false t 86400000000) (dec 2558 0) 17 13 17 tt tt tt d (decimal 2558 0 12 tt tt tt) in
    plus (round binary64 false t 86400000000 ⊕ dec 2558 0) (dec 24332815 1) 19 23 23 tt tt tt e (decimal 24332815 1 22 tt tt tt)

-- ---- from centuries to seconds
rate_below : Below 37 rate
unfolding rate
rate_below =
    plus (dec 876600 0 ⊗ dec 3600 0) (dec 8640184812866 6) 35 25 35 tt tt tt
    (times (dec 876600 0) (dec 3600 0) 21 13 tt (decimal 876600 0 20 tt tt tt) (decimal 3600 0 12 tt tt tt))
    (decimal 8640184812866 6 24 tt tt tt)

sidereal : (x : Float) → Below 28 x → Below 94 (sidereal_of x)
unfolding sidereal_of
sidereal x p =
    let c1 = times (neg (dec 62 7)) x 1 28 tt (neg_below (dec 62 7) 1 (decimal 62 7 0 tt tt tt)) p in
    let c2 = times (neg (dec 62 7) ⊗ x) x 30 28 tt c1 p in
    let c3 = times (neg (dec 62 7) ⊗ x ⊗ x) x 59 28 tt c2 p in
    let q1 = times (dec 93104 6) x 1 28 tt (decimal 93104 6 0 tt tt tt) p in
    let q2 = times (dec 93104 6 ⊗ x) x 30 28 tt q1 p in
    let r = times rate x 37 28 tt rate_below p in
    let s1 = plus (neg (dec 62 7) ⊗ x ⊗ x ⊗ x) (dec 93104 6 ⊗ x ⊗ x) 88 59 88 tt tt tt c3 q2 in
    let s2 = plus (neg (dec 62 7) ⊗ x ⊗ x ⊗ x ⊕ dec 93104 6 ⊗ x ⊗ x) (rate ⊗ x) 90 66 90 tt tt tt s1 r in
    plus (neg (dec 62 7) ⊗ x ⊗ x ⊗ x ⊕ dec 93104 6 ⊗ x ⊗ x ⊕ rate ⊗ x) (dec 6731054841 5) 92 21 92 tt tt tt s2 (decimal 6731054841 5 20 tt tt tt)

-- ---- from seconds to the angle
radian : Below 4 deg2rad
unfolding deg2rad
radian = over pi (dec 180 0) 3 tt (decimal 3141592653589793 15 2 tt tt tt) half_turn

quadrant_below : (x : Float) → Below 101 x → Below 103 (quadrant x)
unfolding quadrant
quadrant_below x p = go (lt x (dec 0 0))
  where
    go : (c : Bool) → Below 103 (cond c (x ⊕ two_pi) x)
    go true = plus x two_pi 101 4 101 tt tt tt p (decimal 6283185307179586 15 3 tt tt tt)
    go false = weaker x 101 103 (leb→le 101 103 tt) p

angle : (t : ℕ) → in_calendar t ≡ true → Below 103 (greenwich_of t)
unfolding greenwich_of gstime_of turned
angle t h =
    let j = julian_of t in
    let m = minus j (dec 2451545 0) 25 23 25 tt tt tt (julian t h) (decimal 2451545 0 22 tt tt tt) in
    let c = over (j ⊖ dec 2451545 0) (dec 36525 0) 27 tt m century in
    let x = (j ⊖ dec 2451545 0) ⊘ dec 36525 0 in
    let d = times (sidereal_of x) deg2rad 94 4 tt (sidereal x c) radian in
    let a = over (sidereal_of x ⊗ deg2rad) (dec 240 0) 99 tt d degree in
    let r = rem_below binary64 (sidereal_of x ⊗ deg2rad ⊘ dec 240 0) two_pi 100 (fine 100 tt) a turn in
    quadrant_below (turned (sidereal_of x ⊗ deg2rad ⊘ dec 240 0)) r

pub finite_angle : FiniteAngle
finite_angle t h = below_finite (greenwich_of t) 103 (angle t h)
