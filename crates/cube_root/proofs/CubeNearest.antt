-- No other f64 is as near to the cube root as `cbrt_of`. Assumes nothing.
use mathlib.Core.Path.{◌≡◌, refl, sym, ap, ◌∙◌, subst}
use mathlib.Core.Logic.{⊎_elim}
use Prim.Native.Nat.{ℕ, zero, suc, ◌+◌, ◌-◌, ◌*◌, ◌/◌, ◌%◌, ◌^◌, ◌≤◌, ◌<◌}
use native.Mathlib.Nat.{le_trans, le_of_eq, le_of_lt, le_antisymm, lt_of_lt_of_le, lt_of_le_of_lt, lt_of_not-le, not-le_of_lt, eq-or-lt_of_le, add_comm, mul_assoc, mul_comm, mul_left_comm, mul_right_comm, add-mul, mul-le-mul_left, mul-le-mul_right, mul-lt-mul_of_pos_right, lt_of_mul-lt-mul_right, mul-pos, mul-div_cancel, pow-suc, eq_of_mul-eq-mul_right, div-add-mod', mod-lt, zero-lt-suc}
use native.Mathlib.Omega.{arith}
use mathlib.Core.Bool.{Bool, true, false, not, true≢false}
use lib.Dec.{T, ltb, ltb→lt, nltb→le}
use lib.Pow.{pow-add, pow_pos, pow_mono}
use lib.Ieee.{Float, nan, inf, fin, binary64, up, down, size, fits, to_bits, of_bits}
use lib.Ieee.Bits.{of_bits-to_bits}
use lib.Ieee.Fits.{down_pos}
use lib.Ieee.Exact.{HasValue}
use lib.Ieee.Positive.{positive}
use Rattle.cube_root.specs.Cube.{cube, normal, cbrt_of}
use Rattle.cube_root.specs.Claims.{NearestCubeRoot, Against, Nearer, NoFarther}
use Rattle.floats.proofs.Patterns.{H, rescale, normal_value, subnormal_value, positive_bits}
use Rattle.cube_root.proofs.CubeLaws.{cube_mono, cube_twice}
use Rattle.cube_root.proofs.CubePatterns.{nearest_cube_root, root_fits}

-- ---- a value is one fraction over 2 ^ 1074
one_value : (x : Float) (a b c : ℕ) → HasValue x false a c → HasValue x false b c → a ≡ b
one_value nan a b c v w = absurd v
one_value (inf s) a b c v w = absurd v
one_value (fin s m e) a b c v w = eq_of_mul-eq-mul_right (down e) (down_pos e) a b (sym v.1 ∙ w.1)

-- ---- from 2 ^ (52 + k) on every f64 is a multiple of 2 ^ k
record Multiple (p u : ℕ) : Type 0 where
  w : ℕ
  is : p ≡ w * u

module _ (y : Float) (f : T (fits binary64 y)) (o : T (positive y)) (p : ℕ) (v : HasValue y false p (2 ^ 1074)) (k : ℕ) (big : H * 2 ^ k ≤ p) where
  multiple : Multiple p (2 ^ k)
  multiple = go (to_bits binary64 y / H) refl
    where
      t_lt : to_bits binary64 y % H < H
      t_lt = mod-lt (to_bits binary64 y) (zero-lt-suc 4503599627370495)

      go : (e : ℕ) → to_bits binary64 y / H ≡ e → Multiple p (2 ^ k)
      go zero i =
          let a : p ≡ to_bits binary64 y % H = one_value y p (to_bits binary64 y % H) (2 ^ 1074) v (subnormal_value y f i) in
          let c : H * 1 ≤ H * 2 ^ k = mul-le-mul_left H (pow_pos k) in
          let l = t_lt in
          absurd (omega arith)
      go (suc E) i =
          let m = H + to_bits binary64 y % H in
          let l = t_lt in
          let q = positive_bits y f o in
          let a : p ≡ m * 2 ^ E =
          one_value y p (m * 2 ^ E) (2 ^ 1074) v
          (normal_value y f E (to_bits binary64 y % H) (sym (div-add-mod' (to_bits binary64 y) H) ∙ ap (λ (z : ℕ). z * H + to_bits binary64 y % H) i) (omega arith) l) in
          let d : k ≤ E = lt_of_not_le' k E (λ (g : suc E ≤ k). no m E g (omega arith) a) in
          let r : E ≡ E - k + k = omega arith in
          record {
            w = m * 2 ^ (E - k);
            is = a ∙ ap (λ (z : ℕ). m * z) (ap (λ (z : ℕ). 2 ^ z) r ∙ pow-add 2 (E - k) k) ∙ sym (mul_assoc m (2 ^ (E - k)) (2 ^ k));
          }
        where
          lt_of_not_le' : (k E : ℕ) → (suc E ≤ k → ⊥) → k ≤ E
          lt_of_not_le' k E n = let g : k < suc E = lt_of_not-le n in omega arith

          no : (m E : ℕ) → suc E ≤ k → m < 9007199254740992 → p ≡ m * 2 ^ E → ⊥
          no m E g s a =
              let c : H * 2 ^ suc E ≤ H * 2 ^ k = mul-le-mul_left H (pow_mono g) in
              let d : H * 2 ^ suc E ≡ 9007199254740992 * 2 ^ E = ap (λ (z : ℕ). H * z) (pow-suc 2 E) ∙ omega arith in
              let h : m * 2 ^ E < 9007199254740992 * 2 ^ E = mul-lt-mul_of_pos_right s (pow_pos E) in
              omega arith

-- ---- the halfway number's cube, in units of u
cube_mul : (a b : ℕ) → cube (a * b) ≡ cube a * cube b
cube_mul a b = omega arith

cube_less : {a b : ℕ} → a < b → cube a < cube b
cube_less {a} h = lt_of_lt_of_le (more a) (cube_mono h)
  where
    more : (a : ℕ) → cube a < cube (suc a)
    more a = omega arith

module _ (N q u p : ℕ) (P : 0 < u) where
  cube_pos : 0 < cube u
  cube_pos = mul-pos (mul-pos P P) P

  beyond : (s : ℕ) → 8 * N < cube s → s * u ≤ q * u + p → 8 * N * cube u < cube (q * u + p)
  beyond s a h = lt_of_lt_of_le (mul-lt-mul_of_pos_right a cube_pos) (le_trans (le_of_eq (sym (cube_mul s u))) (cube_mono h))

  short_of : (s : ℕ) → cube s < 8 * N → q * u + p ≤ s * u → cube (q * u + p) < 8 * N * cube u
  short_of s a h = lt_of_le_of_lt (le_trans (cube_mono h) (le_of_eq (cube_mul s u))) (mul-lt-mul_of_pos_right a cube_pos)

  module _ (above : cube (2 * q - 1) < 8 * N) (below : 8 * N < cube (2 * q + 1)) where
    next_up : (w : ℕ) → p ≡ w * u → q * u < p → 8 * N * cube u < cube (q * u + p)
    next_up w e h =
        let l : q < w = lt_of_mul-lt-mul_right u (subst (λ (z : ℕ). q * u < z) e h) in
        let i : (2 * q + 1) * u ≤ (q + w) * u = mul-le-mul_right u (omega arith) in
        beyond (2 * q + 1) below (omega arith)

    next_down : (w : ℕ) → p ≡ w * u → p < q * u → cube (q * u + p) < 8 * N * cube u
    next_down w e h =
        let l : w < q = lt_of_mul-lt-mul_right u (subst (λ (z : ℕ). z < q * u) e h) in
        let i : (q + w) * u ≤ (2 * q - 1) * u = mul-le-mul_right u (omega arith) in
        short_of (2 * q - 1) above (le_trans (le_of_eq (ap (λ (z : ℕ). q * u + z) e ∙ sym (add-mul q w u))) i)

    far_down : H < q → p < H * u → cube (q * u + p) < 8 * N * cube u
    far_down g h =
        let i : (q + H) * u ≤ (2 * q - 1) * u = mul-le-mul_right u (omega arith) in
        let k : q * u + p ≤ (q + H) * u = omega arith in
        short_of (2 * q - 1) above (le_trans k i)

  -- below 2 ^ 52 the steps are shorter, and the root is not there
  least_down : H ≡ q → 2 ^ 156 ≤ N → p < H * u → cube (q * u + p) < 8 * N * cube u
  least_down e n h =
      let i : q * u + p < 2 * q * u = subst (λ (z : ℕ). z * u + p < 2 * z * u) e (omega arith) in
      let j : cube (2 * q) ≤ 8 * N = le_trans (le_of_eq (cube_twice q)) (mul-le-mul_left 8 (subst (λ (z : ℕ). cube z ≤ N) e n)) in
      lt_of_lt_of_le (cube_less i) (le_trans (le_of_eq (cube_mul (2 * q) u)) (mul-le-mul_right (cube u) j))

-- ---- the same of the values
same_value : (x : Float) (a c b d : ℕ) → HasValue x false a c → HasValue x false b d → a * d ≡ b * c
same_value nan a c b d v w = absurd v
same_value (inf s) a c b d v w = absurd v
same_value (fin s m e) a c b d v w =
    let l : m * up e * c * d ≡ m * up e * d * c = mul_right_comm (m * up e) c d in
    eq_of_mul-eq-mul_right (down e) (down_pos e) (a * d) (b * c)
    (mul_right_comm a d (down e) ∙ ap (λ (z : ℕ). z * d) (sym v.1) ∙ l ∙ ap (λ (z : ℕ). z * c) w.1 ∙ mul_right_comm b (down e) c)

cube_power : (j : ℕ) → cube (2 ^ j) ≡ 8 ^ j
cube_power zero = refl
cube_power (suc j) = ap cube (pow-suc 2 j) ∙ cube_mul (2 ^ j) 2 ∙ ap (λ (z : ℕ). z * 8) (cube_power j) ∙ sym (pow-suc 8 j)

cube_unit : (j : ℕ) → cube (2 ^ (j + 681)) ≡ 8 ^ j * 2 ^ 2043
cube_unit j = ap cube (pow-add 2 j 681) ∙ cube_mul (2 ^ j) (2 ^ 681) ∙ ap (λ (z : ℕ). z * 2 ^ 2043) (cube_power j)

-- n * A = N * Q * B gives n * (A * C) = 8 * N * (Q * D), where B * C = 8 * D
scale : (n N Q A B C D : ℕ) → n * A ≡ N * Q * B → B * C ≡ 8 * D → n * (A * C) ≡ 8 * N * (Q * D)
scale n N Q A B C D e f =
    let a : 8 * N * (Q * D) ≡ N * Q * (8 * D) = simp (mul_assoc, mul_comm, mul_left_comm) in
    sym (mul_assoc n A C) ∙ ap (λ (z : ℕ). z * C) e ∙ mul_assoc (N * Q) B C ∙ ap (λ (z : ℕ). N * Q * z) f ∙ sym a

-- ---- the root's value, and that the format holds it
module _ (x : Float) (f : T (fits binary64 x)) (h : normal x ≡ true) where
  near : NearestCubeRoot x (cbrt_of x)
  near = nearest_cube_root x f h

  abbrev u : ℕ
  u = 2 ^ (near.j + 681)

  root_value : HasValue (cbrt_of x) false (near.q * u) (2 ^ 1074)
  root_value =
      let j = near.j in
      let q = near.q in
      rescale (cbrt_of x) false (q * 2 ^ j) (2 ^ 393) (q * u) (2 ^ 1074) (pow_pos 393)
      (sym (ap (λ (z : ℕ). q * z * 2 ^ 393) (pow-add 2 j 681) ∙ ap (λ (z : ℕ). z * 2 ^ 393) (sym (mul_assoc q (2 ^ j) (2 ^ 681))) ∙ mul_assoc (q * 2 ^ j) (2 ^ 681) (2 ^ 393)))
      near.root

module _ (x y : Float) (n R p : ℕ) (k : Against x y n R p) where
  abbrev N : ℕ
  N = (near x k.held k.is_normal).N

  abbrev q : ℕ
  q = (near x k.held k.is_normal).q

  abbrev j : ℕ
  j = (near x k.held k.is_normal).j

  abbrev v : ℕ
  v = 2 ^ (j + 681)

  R-is : q * v ≡ R
  R-is = one_value (cbrt_of x) (q * v) R (2 ^ 1074) (root_value x k.held k.is_normal) k.root

  n_is : n * 2 ^ 2151 ≡ 8 * N * cube v
  n_is =
      scale n N (8 ^ j) (2 ^ 1179) (2 ^ 1074) (2 ^ 972) (2 ^ 2043) (same_value x n (2 ^ 1074) (N * 8 ^ j) (2 ^ 1179) k.number (near x k.held k.is_normal).number) refl
      ∙ ap (λ (z : ℕ). 8 * N * z) (sym (cube_unit j))

  whole : H * v ≤ p → Multiple p v
  whole big = multiple y k.held_too k.is_positive p k.other (j + 681) big

  up_from : q * v < p → 8 * N * cube v < cube (q * v + p)
  up_from l =
      let r = near x k.held k.is_normal in
      let m = whole (le_trans (mul-le-mul_right v r.long) (le_of_lt l)) in
      next_up N q v p (pow_pos (j + 681)) r.above r.below m.w m.is l

  down_from : p < q * v → cube (q * v + p) < 8 * N * cube v
  down_from l = go (ltb p (H * v)) (ltb→lt p (H * v)) (nltb→le p (H * v))
    where
      go : (b : Bool) → (T b → p < H * v) → (T (not b) → H * v ≤ p) → cube (q * v + p) < 8 * N * cube v
      go true s b =
          let r = near x k.held k.is_normal in
          ⊎_elim
          (λ (e : H ≡ q). least_down N q v p (pow_pos (j + 681)) e r.whole (s tt))
          (λ (e : H < q). far_down N q v p (pow_pos (j + 681)) r.above r.below e (s tt))
          (eq-or-lt_of_le r.long)
      go false s b =
          let r = near x k.held k.is_normal in
          let m = whole (b tt) in
          next_down N q v p (pow_pos (j + 681)) r.above r.below m.w m.is l

  pub none_as_near : Nearer n R p
  none_as_near = subst (λ (z : ℕ). Nearer n z p) R-is (
    (λ l. subst (λ (z : ℕ). z < cube (q * v + p)) (sym n_is) (up_from l)),
    (λ l. subst (λ (z : ℕ). cube (q * v + p) < z) (sym n_is) (down_from l)),
  )

-- ---- one f64 has a value
abbrev pattern : ℕ → ℕ
pattern n = 0 + (size n - 53) * H + n / 2 ^ (size n - 53)

value_bits : (y : Float) (p : ℕ) → HasValue y false p (2 ^ 1074) → to_bits binary64 y ≡ pattern p
unfolding to_bits
value_bits nan p v = absurd v
value_bits (inf s) p v = absurd v
value_bits (fin true m e) p v = absurd (true≢false v.0)
value_bits (fin false m e) p v = ap pattern (ap (λ (n : ℕ). n / down e) v.1 ∙ mul-div_cancel p (down_pos e))

one_number : (y z : Float) (p : ℕ) → T (fits binary64 y) → T (fits binary64 z) → HasValue y false p (2 ^ 1074) → HasValue z false p (2 ^ 1074) → y ≡ z
one_number y z p f g v w =
    sym (of_bits-to_bits binary64 y f) ∙ ap (λ (b : ℕ). of_bits binary64 b) (value_bits y p v ∙ sym (value_bits z p w)) ∙ of_bits-to_bits binary64 z g

-- ---- so what is as near is the root, and the root of a cube is exact
not_below : (a b : ℕ) → (a < b → ⊥) → b ≤ a
not_below a b h = let g : b < suc a = lt_of_not-le h in omega arith

same_units : (n R p : ℕ) → Nearer n R p → NoFarther n p R → p ≡ R
same_units n R p a b =
    le_antisymm
    (not_below R p (λ l. not-le_of_lt (a.0 l) (subst (λ (z : ℕ). cube z ≤ n * 2 ^ 2151) (add_comm p R) (b.1 l))))
    (not_below p R (λ l. not-le_of_lt (a.1 l) (subst (λ (z : ℕ). n * 2 ^ 2151 ≤ cube z) (add_comm p R) (b.0 l))))

pub one_nearest : (x y : Float) (n R p : ℕ) → Against x y n R p → NoFarther n p R → y ≡ cbrt_of x
one_nearest x y n R p k b =
    let e = same_units n R p (none_as_near x y n R p k) b in
    one_number y (cbrt_of x) R k.held_too (root_fits x k.held k.is_normal) (subst (λ (z : ℕ). HasValue y false z (2 ^ 1074)) e k.other) k.root

up_to : (p R : ℕ) → p < R → 2 * p ≤ p + R
up_to p R l = omega arith

down_to : (p R : ℕ) → R < p → p + R ≤ 2 * p
down_to p R l = omega arith

no_farther : (n R p : ℕ) → cube p ≡ n * 2 ^ 2148 → NoFarther n p R
no_farther n R p e =
    let d : n * 2 ^ 2151 ≡ cube (2 * p) = sym (mul_assoc n (2 ^ 2148) 8) ∙ ap (λ (z : ℕ). z * 8) (sym e) ∙ mul_comm (cube p) 8 ∙ sym (cube_twice p) in
    ((λ l. le_trans (le_of_eq d) (cube_mono (up_to p R l))), (λ l. le_trans (cube_mono (down_to p R l)) (le_of_eq (sym d))))

pub cubes_exact : (x y : Float) (n p : ℕ) → T (fits binary64 x) → normal x ≡ true → T (fits binary64 y) → T (positive y)
    → HasValue x false n (2 ^ 1074) → HasValue y false p (2 ^ 1074) → cube p ≡ n * 2 ^ 2148 → cbrt_of x ≡ y
cubes_exact x y n p f h g o v w e =
    let R = (near x f h).q * u x f h in
    let k : Against x y n R p = record { held = f; is_normal = h; held_too = g; is_positive = o; number = v; root = root_value x f h; other = w } in
    sym (one_nearest x y n R p k (no_farther n R p e))
