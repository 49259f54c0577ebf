-- The whole cube root, the nearest whole number to a cube root, and the cube of a number in two halves, on natural numbers. Assumes nothing.
use mathlib.Core.Path.{◌≡◌, sym, ap, ◌∙◌, subst}
use Prim.Native.Nat.{ℕ, zero, suc, ◌+◌, ◌-◌, ◌*◌, ◌/◌, ◌%◌, ◌^◌, ◌≤◌, ◌<◌, zero-le}
use native.Mathlib.Nat.{le_trans, le_of_eq, le_of_lt, le_antisymm, lt_of_not-le, lt_of_le_of_lt, lt_of_lt_of_le, lt_trans, le-add_right, not-le_of_lt, mul-pos, div-le_of_le-mul, mul-le-mul, mul-le-mul_right, pow-suc, div-lt_iff_lt-mul, le-div_iff_mul-le, div-mul-le_self, lt-div-mul-add, div-add-mod', mod-lt, zero-lt-suc}
use native.Mathlib.Omega.{arith}
use mathlib.Core.Bool.{Bool, true, false, not, cond}
use lib.Dec.{T, leb, ltb, leb→le, nleb→lt, ltb→lt, nltb→le, lit≤, lit<}
use Rattle.cube_root.specs.Cube.{cube, icbrt, near_cube}
use Rattle.cube_root.specs.Cut.{cut}

pub cube_mono : {a b : ℕ} → a ≤ b → cube a ≤ cube b
cube_mono h = mul-le-mul (mul-le-mul h h) h

pub cube_lt : {a b : ℕ} → cube a < cube b → a < b
cube_lt h = lt_of_not-le (λ g. not-le_of_lt h (cube_mono g))

-- ---- cubes of neighbours, multiplied out
pub cube_twice : (p : ℕ) → cube (2 * p) ≡ 8 * cube p
cube_twice p = omega arith

pub cube_one : (p : ℕ) → cube (2 * p + 1) ≡ 8 * cube p + 12 * (p * p) + 6 * p + 1
cube_one p = omega arith

pub cube_two : (p : ℕ) → cube (2 * p + 2) ≡ 8 * cube (p + 1)
cube_two p = omega arith

-- no number and a half has a whole cube
pub no_tie : (N q : ℕ) → 8 * N ≡ cube (2 * q + 1) → ⊥
no_tie N q e = let k = cube_one q in omega arith

-- ---- `icbrt` is the whole part of the root
step : (b : Bool) (p n : ℕ) → (T b → cube (2 * p + 1) ≤ n) → (T (not b) → n < cube (2 * p + 1)) → cube p ≤ n / 8 → n / 8 < cube (p + 1)
    → (cube (cond b (2 * p + 1) (2 * p)) ≤ n) × (n < cube (cond b (2 * p + 1) (2 * p) + 1))
step true p n y z l h = let k = cube_two p in (y tt, omega arith)
step false p n y z l h = let k = cube_twice p in (omega arith, z tt)

pub icbrt_is : (k n : ℕ) → n < 8 ^ k → (cube (icbrt k n) ≤ n) × (n < cube (icbrt k n + 1))
unfolding icbrt
icbrt_is zero n h = (zero-le, h)
icbrt_is (suc k) n h =
    let p = icbrt k (n / 8) in
    let q : n / 8 < 8 ^ k = (div-lt_iff_lt-mul (zero-lt-suc 7)).1 (subst (λ (x : ℕ). n < x) (pow-suc 8 k) h) in
    let i = icbrt_is k (n / 8) q in
    step (leb (cube (2 * p + 1)) n) p n (leb→le (cube (2 * p + 1)) n) (nleb→lt (cube (2 * p + 1)) n) i.0 i.1

-- ---- `near_cube` is the nearest whole number to the root: the cubes of q - 1/2 and q + 1/2 lie on either side of n, said without fractions
abbrev pub Near : ℕ → ℕ → Type 0
Near n q = (cube (2 * q - 1) < 8 * n) × (8 * n < cube (2 * q + 1))

near_step : (b : Bool) (r n : ℕ) → 0 < n → (T b → cube (2 * r + 1) < 8 * n) → (T (not b) → 8 * n ≤ cube (2 * r + 1)) → cube r ≤ n → n < cube (r + 1) → Near n (cond b (r + 1) r)
near_step true r n P y z l h =
    let e : 2 * (r + 1) - 1 ≡ 2 * r + 1 = omega arith in
    let k = cube_two r in
    let m : cube (2 * r + 2) ≤ cube (2 * (r + 1) + 1) = cube_mono (omega arith) in
    (subst (λ (x : ℕ). cube x < 8 * n) (sym e) (y tt), omega arith)
near_step false zero n P y z l h = (omega arith, omega (arith, z tt))
near_step false (suc r) n P y z l h =
    let e : 2 * suc r - 1 ≡ 2 * r + 1 = omega arith in
    let a : cube (2 * r + 1) < 8 * n = omega arith in
    (subst (λ (x : ℕ). cube x < 8 * n) (sym e) a, omega (arith, z tt, cube_one (suc r)))

pub near_holds : (n : ℕ) → 0 < n → n < 8 ^ 53 → Near n (near_cube n)
unfolding near_cube
near_holds n P h =
    let r = icbrt 53 n in
    let i = icbrt_is 53 n h in
    near_step (ltb (cube (2 * r + 1)) (8 * n)) r n P (ltb→lt (cube (2 * r + 1)) (8 * n)) (nltb→le (cube (2 * r + 1)) (8 * n)) i.0 i.1

-- at most one number is the nearest
pub near_le : (n p q : ℕ) → cube (2 * p - 1) < 8 * n → 8 * n < cube (2 * q + 1) → p ≤ q
near_le n p q a b = let g : 2 * p - 1 < 2 * q + 1 = cube_lt (lt_trans a b) in omega arith

pub near_is : (n q : ℕ) → 0 < n → n < 8 ^ 53 → Near n q → q ≡ near_cube n
near_is n q P h a = let i = near_holds n P h in le_antisymm (near_le n q (near_cube n) a.0 i.1) (near_le n (near_cube n) q i.0 a.1)

-- where the next number is not below the root, there is no tie either
pub near_of : (n q : ℕ) → cube (2 * q - 1) < 8 * n → 8 * n ≤ cube (2 * q + 1) → Near n q
near_of n q a b = (a, omega (arith, cube_one q))

after : (q r : ℕ) → r ≡ q + 1 → 2 * r - 1 ≡ 2 * q + 1
after q r e = omega arith

-- ---- the same for n = a * 2 ^ 104 and an a of 53 to 55 digits, 8 * n being a * 2 ^ 107
abbrev pub K : ℕ
K = 162259276829213363391578010288128

abbrev pub scaled : ℕ → ℕ
scaled a = a * 20282409603651670423947251286016

eight : (a : ℕ) → 8 * scaled a ≡ a * K
eight a = omega arith

module _ (a : ℕ) (lo : 4503599627370496 ≤ a) (hi : a < 36028797018963968) where
  in_range_lem : (0 < scaled a) × (scaled a < 8 ^ 53)
  in_range_lem = let h : a ≤ 36028797018963967 = omega arith in let p : 0 < a = omega arith in (mul-pos p (lit< tt), lt_of_le_of_lt (mul-le-mul_right 20282409603651670423947251286016 h) (lit< tt))

  pub nearest_is : (q : ℕ) → Near (scaled a) q → q ≡ near_cube (scaled a)
  nearest_is q n = near_is (scaled a) q in_range_lem.0 in_range_lem.1 n

  pub near_scaled : Near (scaled a) (near_cube (scaled a))
  near_scaled = near_holds (scaled a) in_range_lem.0 in_range_lem.1

  pub near_range : (4503599627370496 ≤ near_cube (scaled a)) × (near_cube (scaled a) ≤ 9007199254740992)
  near_range =
      let i = near_scaled in
      let h : a ≤ 36028797018963967 = omega arith in
      let l : cube (2 * 4503599627370496 - 1) < a * K = lt_of_lt_of_le (lit< tt) (mul-le-mul_right K lo) in
      let g : a * K < cube (2 * 9007199254740992 + 1) = lt_of_le_of_lt (mul-le-mul_right K h) (lit< tt) in (
        near_le (scaled a) 4503599627370496 (near_cube (scaled a)) (subst (λ (x : ℕ). cube (2 * 4503599627370496 - 1) < x) (sym (eight a)) l) i.1,
        near_le (scaled a) (near_cube (scaled a)) 9007199254740992 i.0 (subst (λ (x : ℕ). x < cube (2 * 9007199254740992 + 1)) (sym (eight a)) g),
      )

-- a cube in units of 2 ^ 107, compared with a. These are shut, since their numbers are too long for `omega`.
unfoldable pub Under : ℕ → ℕ → Type 0
Under a q = cube (2 * q - 1) < 8 * scaled a

unfoldable pub Over : ℕ → ℕ → Type 0
Over a q = 8 * scaled a ≤ cube (2 * q - 1)

module _ (a : ℕ) where
  pub under_of : (q u : ℕ) → u ≡ cut (cube (2 * q - 1)) → u < a → Under a q
  unfolding cut Under
  under_of q u e h = subst (λ (x : ℕ). cube (2 * q - 1) < x) (sym (eight a)) ((div-lt_iff_lt-mul {k = K} (lit< tt)).0 (subst (λ (x : ℕ). x < a) e h))

  pub over_of : (q u : ℕ) → u ≡ cut (cube (2 * q - 1)) → a ≤ u → Over a q
  unfolding cut Over
  over_of q u e h = subst (λ (x : ℕ). x ≤ cube (2 * q - 1)) (sym (eight a)) ((le-div_iff_mul-le {k = K} (lit< tt)).0 (subst (λ (x : ℕ). a ≤ x) e h))

  pub least_under : 4503599627370496 ≤ a → Under a 4503599627370496
  unfolding Under
  least_under lo = subst (λ (x : ℕ). cube (2 * 4503599627370496 - 1) < x) (sym (eight a)) (lt_of_lt_of_le (lit< tt) (mul-le-mul_right K lo))

  pub most_over : a < 36028797018963968 → Over a 9007199254740993
  unfolding Over
  most_over hi =
      let h : a ≤ 36028797018963967 = omega arith in
      subst (λ (x : ℕ). x ≤ cube (2 * 9007199254740993 - 1)) (sym (eight a)) (le_trans (mul-le-mul_right K h) (lit≤ tt))

  pub between : 4503599627370496 ≤ a → a < 36028797018963968 → (q r : ℕ) → r ≡ q + 1 → Under a q → Over a r → q ≡ near_cube (scaled a)
  unfolding Under Over
  between lo hi q r e u o =
      nearest_is a lo hi q (near_of (scaled a) q u (subst (λ (x : ℕ). 8 * scaled a ≤ cube x) (after q r e) o))

-- ---- a candidate c = d + 2, checked
module _ (a d g under over : ℕ) (few : d < 9007199254740992) (gap : g * K ≤ 24 * ((d + 2) * (d + 2))) (u : under ≡ cut (cube (2 * d + 3))) (o : over ≡ cut (cube (2 * d + 5))) where
  u_lo : under * K ≤ cube (2 * d + 3)
  unfolding cut
  u_lo = subst (λ (x : ℕ). x * K ≤ cube (2 * d + 3)) (sym u) (div-mul-le_self (cube (2 * d + 3)) K)

  u_hi : cube (2 * d + 3) < under * K + K
  unfolding cut
  u_hi = subst (λ (x : ℕ). cube (2 * d + 3) < x * K + K) (sym u) (lt-div-mul-add {a = cube (2 * d + 3)} {b = K} (lit< tt))

  o_lo : over * K ≤ cube (2 * d + 5)
  unfolding cut
  o_lo = subst (λ (x : ℕ). x * K ≤ cube (2 * d + 5)) (sym o) (div-mul-le_self (cube (2 * d + 5)) K)

  o_hi : cube (2 * d + 5) < over * K + K
  unfolding cut
  o_hi = subst (λ (x : ℕ). cube (2 * d + 5) < x * K + K) (sym o) (lt-div-mul-add {a = cube (2 * d + 5)} {b = K} (lit< tt))

  check_up : a ≤ over + g → over < a → (cube (2 * d + 5) < 8 * scaled a) × (8 * scaled a < cube (2 * d + 7))
  check_up f h = let k = o_lo in let m = o_hi in (omega arith, omega arith)

  check_same : a ≤ over → under < a → (cube (2 * d + 3) < 8 * scaled a) × (8 * scaled a < cube (2 * d + 5))
  check_same f h = let k = o_lo in let m = u_hi in (omega arith, omega arith)

  check_down : under + 2 ≤ a + g → a ≤ under → (cube (2 * d + 1) < 8 * scaled a) × (8 * scaled a < cube (2 * d + 3))
  check_down f h = let k = u_lo in let m = u_hi in (omega arith, omega arith)

-- the next cubes are 24 * c * c and more away
abbrev pub gap_of : ℕ → ℕ
gap_of c = 3 * (c / 67108864 * (c / 67108864)) / 4503599627370496

gap : (c : ℕ) → gap_of c * K ≤ 24 * (c * c)
gap c =
    let s = c / 67108864 in
    let a : s * 67108864 * (s * 67108864) ≤ c * c = mul-le-mul (div-mul-le_self c 67108864) (div-mul-le_self c 67108864) in
    let b : 3 * (s * s) / 4503599627370496 * 4503599627370496 ≤ 3 * (s * s) = div-mul-le_self (3 * (s * s)) 4503599627370496 in
    omega arith

pub in_order : (z under over : ℕ) → under ≡ cut (cube z) → over ≡ cut (cube (z + 2)) → under ≤ over
unfolding cut
in_order z under over u o =
    let m : cube z ≤ cube (z + 2) = cube_mono (le-add_right z 2) in
    let i : cube z / K ≤ cube (z + 2) / K = (le-div_iff_mul-le {k = K} (lit< tt)).1 (le_trans (div-mul-le_self (cube z) K) m) in
    le_trans (le_of_eq u) (le_trans i (le_of_eq (sym o)))

cut_le : (z n : ℕ) → n ≡ cut (cube z) → z ≤ 18014398509481984 → n ≤ 36028797018963968
unfolding cut
cut_le z n e h = le_trans (le_of_eq e) (div-le_of_le-mul K (le_trans (cube_mono h) (lit≤ tt)))

-- what the check adds up fits
pub record Fine (c under over : ℕ) : Type 0 where
  pub square : c / 67108864 * (c / 67108864) ≤ 18014398509481984
  pub under_le : under ≤ 36028797018963968
  pub over_le : over ≤ 36028797018963968
  pub order : under ≤ over

pub fine : (c under over : ℕ) → c < 9007199254740992 → under ≡ cut (cube (2 * c - 1)) → over ≡ cut (cube (2 * c - 1 + 2)) → Fine c under over
fine c under over h u o =
    let s : c / 67108864 ≤ 134217728 = omega arith in
    record {
      square = mul-le-mul s s;
      under_le = cut_le (2 * c - 1) under u (omega arith);
      over_le = cut_le (2 * c - 1 + 2) over o (omega arith);
      order = in_order (2 * c - 1) under over u o;
    }

near_by : (n q x y : ℕ) → x ≡ 2 * q - 1 → y ≡ 2 * q + 1 → (cube x < 8 * n) × (8 * n < cube y) → Near n q
near_by n q x y e f k = (subst (λ (t : ℕ). cube t < 8 * n) e k.0, subst (λ (t : ℕ). 8 * n < cube t) f k.1)

module _ (a c under over : ℕ) (lo : 4503599627370496 ≤ a) (hi : a < 36028797018963968) (long : 4503599627370496 ≤ c) (few : c < 9007199254740992)
    (u : under ≡ cut (cube (2 * c - 1))) (o : over ≡ cut (cube (2 * c - 1 + 2))) (f : a ≤ over + gap_of c) (h : under + 2 ≤ a + gap_of c) where
  abbrev d : ℕ
  d = c - 2

  back : d + 2 ≡ c
  back = omega arith

  ends : (2 * d + 3 ≡ 2 * c - 1) × (2 * d + 5 ≡ 2 * c - 1 + 2)
  ends = (omega arith, omega arith)

  small : d < 9007199254740992
  small = omega arith

  gap_d : gap_of c * K ≤ 24 * ((d + 2) * (d + 2))
  gap_d = subst (λ (x : ℕ). gap_of c * K ≤ 24 * (x * x)) (sym back) (gap c)

  u_d : under ≡ cut (cube (2 * d + 3))
  u_d = u ∙ ap (λ (x : ℕ). cut (cube x)) (sym ends.0)

  o_d : over ≡ cut (cube (2 * d + 5))
  o_d = o ∙ ap (λ (x : ℕ). cut (cube x)) (sym ends.1)

  pick : (up down : Bool) → (T up → over < a) → (T (not up) → a ≤ over) → (T down → a ≤ under) → (T (not down) → under < a)
      → cond up (c + 1) (cond down (c - 1) c) ≡ near_cube (scaled a)
  pick true down y n i m = nearest_is a lo hi (c + 1) (near_by (scaled a) (c + 1) (2 * d + 5) (2 * d + 7) (omega arith) (omega arith) (check_up a d (gap_of c) under over small gap_d u_d o_d f (y tt)))
  pick false true y n i m = nearest_is a lo hi (c - 1) (near_by (scaled a) (c - 1) (2 * d + 1) (2 * d + 3) (omega arith) (omega arith) (check_down a d (gap_of c) under over small gap_d u_d o_d h (i tt)))
  pick false false y n i m = nearest_is a lo hi c (near_by (scaled a) c (2 * d + 3) (2 * d + 5) (omega arith) (omega arith) (check_same a d (gap_of c) under over small gap_d u_d o_d (n tt) (m tt)))

  pub check_neighbour : cond (ltb over a) (c + 1) (cond (leb a under) (c - 1) c) ≡ near_cube (scaled a)
  check_neighbour = pick (ltb over a) (leb a under) (ltb→lt over a) (nltb→le over a) (leb→le a under) (nleb→lt a under)

-- ---- a number in five digits at base 2 ^ 27, in units of 2 ^ 107
pub carries : (x y z : ℕ) → x < 2 ^ 60 → y < 2 ^ 60 → z < 2 ^ 60 → (z + (y + x / 134217728) / 134217728) / 134217728 < 2 ^ 34
carries x y z a b c =
    let i : x / 134217728 < 2 ^ 34 = omega arith in
    let j : (y + x / 134217728) / 134217728 < 2 ^ 34 = omega arith in
    omega arith

-- ---- the cube of h * 2 ^ 27 + l, from the squares of h and l taken apart in the same way
module _ (h l p1 p0 q1 q0 : ℕ) (p : p1 * 134217728 + p0 ≡ h * h) (q : q1 * 134217728 + q0 ≡ l * l) where
  pub cube_parts : q0 * l + (3 * (q0 * h) + q1 * l) * 2 ^ 27 + 3 * (p0 * l + q1 * h) * 2 ^ 54 + (p0 * h + 3 * (p1 * l)) * 2 ^ 81 + p1 * h * 2 ^ 108 ≡ cube (h * 134217728 + l)
  cube_parts =
      let a : (p1 * 134217728 + p0) * h ≡ h * h * h = ap (λ (x : ℕ). x * h) p in
      let b : (p1 * 134217728 + p0) * l ≡ h * h * l = ap (λ (x : ℕ). x * l) p in
      let d : (q1 * 134217728 + q0) * h ≡ l * l * h = ap (λ (x : ℕ). x * h) q in
      let e : (q1 * 134217728 + q0) * l ≡ l * l * l = ap (λ (x : ℕ). x * l) q in
      omega arith

plus_two : (z : ℕ) → cube (z + 2) ≡ cube z + 6 * (z * z) + 12 * z + 8
plus_two z = omega arith

next : (x0 x1 x2 x3 x4 h l z : ℕ) → x0 + x1 * 2 ^ 27 + x2 * 2 ^ 54 + x3 * 2 ^ 81 + x4 * 2 ^ 108 ≡ cube z → (h * 134217728 + l) * (h * 134217728 + l) ≡ z * z → h * 134217728 + l ≡ z
    → x0 + 6 * (l * l) + 12 * l + 8 + (x1 + 12 * (h * l + h)) * 2 ^ 27 + (x2 + 6 * (h * h)) * 2 ^ 54 + x3 * 2 ^ 81 + x4 * 2 ^ 108 ≡ cube (z + 2)
next x0 x1 x2 x3 x4 h l z a b e = let f = plus_two z in omega arith

-- ---- the same of z, and of z + 2
abbrev pub hi : ℕ → ℕ
hi z = z / 134217728

abbrev pub lo : ℕ → ℕ
lo z = z % 134217728

pub record Sizes (z : ℕ) : Type 0 where
  pub h_le : hi z ≤ 134217728
  pub l_le : lo z ≤ 134217728
  pub hh : hi z * hi z ≤ 18014398509481984
  pub ll : lo z * lo z ≤ 18014398509481984
  pub hl : hi z * lo z ≤ 18014398509481984
  pub p1h : hi (hi z * hi z) * hi z ≤ 18014398509481984
  pub p1l : hi (hi z * hi z) * lo z ≤ 18014398509481984
  pub p0h : lo (hi z * hi z) * hi z ≤ 18014398509481984
  pub p0l : lo (hi z * hi z) * lo z ≤ 18014398509481984
  pub q1h : hi (lo z * lo z) * hi z ≤ 18014398509481984
  pub q1l : hi (lo z * lo z) * lo z ≤ 18014398509481984
  pub q0h : lo (lo z * lo z) * hi z ≤ 18014398509481984
  pub q0l : lo (lo z * lo z) * lo z ≤ 18014398509481984

lo_le : (n : ℕ) → lo n ≤ 134217728
lo_le n = le_of_lt (mod-lt n (zero-lt-suc 134217727))

hi_le : (n : ℕ) → n ≤ 18014398509481984 → hi n ≤ 134217728
hi_le n h = omega arith

pub sizes : (z : ℕ) → z < 18014398509481984 → Sizes z
sizes z h =
    let a = hi_le z (le_of_lt h) in
    let b = lo_le z in
    let c : hi z * hi z ≤ 18014398509481984 = mul-le-mul a a in
    let d : lo z * lo z ≤ 18014398509481984 = mul-le-mul b b in
    let p = hi_le (hi z * hi z) c in
    let q = hi_le (lo z * lo z) d in
    let r = lo_le (hi z * hi z) in
    let s = lo_le (lo z * lo z) in
    record {
      h_le = a;
      l_le = b;
      hh = c;
      ll = d;
      hl = mul-le-mul a b;
      p1h = mul-le-mul p a;
      p1l = mul-le-mul p b;
      p0h = mul-le-mul r a;
      p0l = mul-le-mul r b;
      q1h = mul-le-mul q a;
      q1l = mul-le-mul q b;
      q0h = mul-le-mul s a;
      q0l = mul-le-mul s b;
    }

module _ (z : ℕ) where
  abbrev h : ℕ
  h = hi z

  abbrev l : ℕ
  l = lo z

  abbrev pub x0 : ℕ
  x0 = lo (l * l) * l

  abbrev pub x1 : ℕ
  x1 = 3 * (lo (l * l) * h) + hi (l * l) * l

  abbrev pub x2 : ℕ
  x2 = 3 * (lo (h * h) * l + hi (l * l) * h)

  abbrev pub x3 : ℕ
  x3 = lo (h * h) * h + 3 * (hi (h * h) * l)

  abbrev pub x4 : ℕ
  x4 = hi (h * h) * h

  pub cube_is : x0 + x1 * 2 ^ 27 + x2 * 2 ^ 54 + x3 * 2 ^ 81 + x4 * 2 ^ 108 ≡ cube z
  cube_is = cube_parts h l (hi (h * h)) (lo (h * h)) (hi (l * l)) (lo (l * l)) (div-add-mod' (h * h) 134217728) (div-add-mod' (l * l) 134217728) ∙ ap cube (div-add-mod' z 134217728)

  pub next_cube_is : x0 + 6 * (l * l) + 12 * l + 8 + (x1 + 12 * (h * l + h)) * 2 ^ 27 + (x2 + 6 * (h * h)) * 2 ^ 54 + x3 * 2 ^ 81 + x4 * 2 ^ 108 ≡ cube (z + 2)
  next_cube_is =
      let a = cube_is in
      let e : h * 134217728 + l ≡ z = div-add-mod' z 134217728 in
      let b : (h * 134217728 + l) * (h * 134217728 + l) ≡ z * z = ap (λ (x : ℕ). x * x) e in
      next x0 x1 x2 x3 x4 h l z a b e

-- ---- an m of 53 digits, moved up by no place, one or two
pub record Shifted (m r : ℕ) : Type 0 where
  pub kept : m * 2 ^ r % 18446744073709551616 ≡ m * 2 ^ r
  pub long : 4503599627370496 ≤ m * 2 ^ r
  pub short : m * 2 ^ r < 36028797018963968

pub shifted : (m r : ℕ) → 4503599627370496 ≤ m → m < 9007199254740992 → r < 3 → Shifted m r
shifted m zero a b h = record { kept = omega arith; long = omega arith; short = omega arith }
shifted m (suc zero) a b h = record { kept = omega arith; long = omega arith; short = omega arith }
shifted m (suc (suc zero)) a b h = record { kept = omega arith; long = omega arith; short = omega arith }
shifted m (suc (suc (suc r))) a b h = absurd (omega arith)
