-- From a normal number's bit pattern to the digits that its cube root is found from, and from the root's digits back to a value. Assumes nothing.
use mathlib.Core.Path.{◌≡◌, refl, sym, ap, ◌∙◌, subst}
use Prim.Native.Nat.{ℕ, zero, suc, ◌+◌, ◌-◌, ◌*◌, ◌/◌, ◌%◌, ◌^◌, ◌≤◌, ◌<◌}
use native.Mathlib.Nat.{le_trans, le_of_eq, le_of_lt, not-le_of_lt, lt_irrefl, add_comm, mul_assoc, mul_comm, mul_left_comm, one-mul, mul-le-mul_right, le_of_mul-le-mul_right, pow-suc, div-add-mod', mod-lt, zero-lt-suc}
use native.Mathlib.Omega.{arith}
use mathlib.Core.Bool.{Bool, true, false, not, ◌&&◌, ◌||◌, false≢true}
use lib.Dec.{T, ltb, eqb, ltb→lt, nltb→le, eqb→eq}
use lib.Pow.{pow-add, pow_pos}
use lib.Ieee.{Float, nan, inf, fin, binary64, up, down, minus, odd, fits, le, is_nan, to_bits, of_bits}
use lib.Ieee.Fits.{down_pos, and_l, and_r}
use lib.Ieee.Exact.{HasValue, odd_sign}
use lib.Ieee.Bits.{of_bits-fits}
use Rattle.cube_root.specs.Cube.{near_cube, field, digits, normal, cbrt_normal, cbrt_of}
use Rattle.cube_root.specs.Claims.{NearestCubeRoot}
use Rattle.floats.proofs.Patterns.{H, rescale, read, normal_value, subnormal_value, finite_bits}
use Rattle.floats.proofs.Branch.{yes}
use Rattle.cube_root.proofs.CubeLaws.{scaled, Shifted, shifted, near_range, near_scaled}

pub no_nan : (x : Float) → normal x ≡ true → T (not (is_nan x))
unfolding normal is_nan le
no_nan nan h = subst T (sym h) tt
no_nan (inf s) h = tt
no_nan (fin s m e) h = tt

-- ---- a normal number's exponent field is from 1 to 2046
at_most : (a b : ℕ) (p q : Bool) → (T p → a < b) → (T q → a ≡ b) → T ((p || q && true) && true) → a ≤ b
at_most a b true q f g t = le_of_lt (f tt)
at_most a b false true f g t = le_of_eq (g tt)
at_most a b false false f g t = absurd t

T_of : {b : Bool} → b ≡ true → T b
T_of h = subst T (sym h) tt

pub normal_field : (x : Float) → T (fits binary64 x) → normal x ≡ true → (to_bits binary64 x / H ≡ 0 → ⊥) × (to_bits binary64 x < 2047 * H)
unfolding normal le
normal_field nan f h = absurd (false≢true h)
normal_field (inf true) f h = absurd (false≢true h)
normal_field (inf false) f h = absurd (false≢true h)
normal_field (fin true m e) f h =
    let a = 1 * 1 * down e in
    let b = m * up e * 2 ^ 1022 in
    let z : a ≡ 0 = eqb→eq a 0 (and_r (eqb a b) (eqb a 0) (and_l (eqb a b && eqb a 0) true (T_of h))) in
    absurd (lt_irrefl 0 (subst (λ (y : ℕ). 0 < y) (sym (one-mul (down e)) ∙ z) (down_pos e)))
normal_field (fin false m e) f h = (too_small, finite_bits m e f)
  where
    too_small : to_bits binary64 (fin false m e) / H ≡ 0 → ⊥
    too_small z =
        let a = 1 * 1 * down e in
        let b = m * up e * 2 ^ 1022 in
        let t = to_bits binary64 (fin false m e) % H in
        let g : a ≤ b = at_most a b (ltb a b) (eqb a b) (ltb→lt a b) (eqb→eq a b) (T_of h) in
        let v : m * up e * 2 ^ 1074 ≡ t * down e = (subnormal_value (fin false m e) f z).1 in
        let i : H * down e ≤ t * down e =
        le_trans (le_of_eq (mul_comm H (down e) ∙ ap (λ (y : ℕ). y * H) (sym (one-mul (down e))))) (le_trans (mul-le-mul_right H g) (le_of_eq (mul_assoc (m * up e) (2 ^ 1022) (2 ^ 52) ∙ v))) in
        not-le_of_lt (mod-lt (to_bits binary64 (fin false m e)) (zero-lt-suc 4503599627370495)) (le_of_mul-le-mul_right i (down_pos e))

-- ---- a root of 53 digits, or 2 ^ 53, packed
one_more : (E : ℕ) → odd 53 false H (suc E) 1074 ≡ odd 53 false 9007199254740992 E 1074
unfolding odd
one_more E = let e : suc E + 52 ≡ E + 53 = omega arith in ap (λ (k : ℕ). fin false 1 (minus k 1074)) e

pub packed_root : (E q : ℕ) → E < 2000 → H ≤ q → q ≤ 9007199254740992 → of_bits binary64 (E * H + q) ≡ odd 53 false q E 1074
packed_root E q h lo hi = go (ltb q 9007199254740992) (ltb→lt q 9007199254740992) (nltb→le q 9007199254740992)
  where
    go : (b : Bool) → (T b → q < 9007199254740992) → (T (not b) → 9007199254740992 ≤ q) → of_bits binary64 (E * H + q) ≡ odd 53 false q E 1074
    go true y n =
        let l = y tt in
        let u : E * H + q ≡ suc E * H + (q - H) = omega arith in
        let v : H + (q - H) ≡ q = omega arith in
        ap (λ (z : ℕ). of_bits binary64 z) u ∙ read E (q - H) (omega arith) (omega arith) ∙ ap (λ (z : ℕ). odd 53 false z E 1074) v
    go false y n =
        let l = n tt in
        let u : E * H + q ≡ suc (suc E) * H + 0 = omega arith in
        let v : 9007199254740992 ≡ q = omega arith in
        ap (λ (z : ℕ). of_bits binary64 z) u ∙ read (suc E) 0 (omega arith) (zero-lt-suc 4503599627370495) ∙ one_more E ∙ ap (λ (z : ℕ). odd 53 false z E 1074) v

module _ (x : Float) (f : T (fits binary64 x)) (h : normal x ≡ true) where
  b_lt : to_bits binary64 x < 2047 * H
  b_lt = (normal_field x f h).1

  -- the digits and the field, as the code takes them
  pub parts : (H ≤ digits x) × (digits x < 9007199254740992) × (field x < 2047)
  parts = let l = b_lt in let m = mod-lt (to_bits binary64 x) (zero-lt-suc 4503599627370495) in (omega arith, omega arith, omega arith)

  abbrev a : ℕ
  a = digits x * 2 ^ (field x % 3)

  inside : Shifted (digits x) (field x % 3)
  inside = shifted (digits x) (field x % 3) parts.0 parts.1 (mod-lt (field x) (zero-lt-suc 2))

  range : (H ≤ near_cube (scaled a)) × (near_cube (scaled a) ≤ 9007199254740992)
  range = near_range a inside.long inside.short

  root_is : cbrt_of x ≡ odd 53 false (near_cube (scaled a)) (field x / 3 + 681) 1074
  unfolding cbrt_of cbrt_normal
  root_is = sym (yes (normal x) (cbrt_normal x) nan h)

  pub packed_is : (r : ℕ) → r ≡ (field x / 3 + 681) * H + near_cube (scaled a) → of_bits binary64 r ≡ cbrt_of x
  packed_is r p =
      let l = b_lt in
      ap (λ (z : ℕ). of_bits binary64 z) p ∙ packed_root (field x / 3 + 681) (near_cube (scaled a)) (omega arith) range.0 range.1 ∙ sym root_is

  pub root_fits : T (fits binary64 (cbrt_of x))
  root_fits =
      let r = (field x / 3 + 681) * H + near_cube (scaled a) in
      subst (λ (y : Float). T (fits binary64 y)) (packed_is r refl) (of_bits-fits binary64 r)

-- ---- the root of every positive normal value is the nearest
eight : (k : ℕ) → 8 ^ k ≡ 2 ^ (k * 3)
eight zero = refl
eight (suc k) =
    let e : k * 3 + 3 ≡ suc k * 3 = omega arith in
    pow-suc 8 k ∙ ap (λ (y : ℕ). y * 8) (eight k) ∙ sym (pow-add 2 (k * 3) 3) ∙ ap (λ (y : ℕ). 2 ^ y) e

shuffle : (m P R Q A B : ℕ) → P * 2 ≡ R * Q → m * P * (2 * (A * B)) ≡ m * R * A * Q * B
shuffle m P R Q A B e =
    let a : m * P * (2 * (A * B)) ≡ m * (P * 2) * (A * B) = simp mul_assoc in
    let b : m * (R * Q) * (A * B) ≡ m * R * A * Q * B = simp (mul_assoc, mul_comm, mul_left_comm) in
    a ∙ ap (λ (y : ℕ). m * y * (A * B)) e ∙ b

module _ (x : Float) (f : T (fits binary64 x)) (h : normal x ≡ true) (E : ℕ) (i : field x ≡ suc E) where
  abbrev N : ℕ
  N = scaled (digits x * 2 ^ (field x % 3))

  abbrev j : ℕ
  j = field x / 3

  powers : 2 ^ E * 2 ≡ 2 ^ (field x % 3) * 8 ^ j
  powers =
      let w : E + 1 ≡ field x % 3 + j * 3 = omega (arith, div-add-mod' (field x) 3) in
      sym (pow-add 2 E 1) ∙ ap (λ (y : ℕ). 2 ^ y) w ∙ pow-add 2 (field x % 3) (j * 3) ∙ ap (λ (y : ℕ). 2 ^ (field x % 3) * y) (sym (eight j))

  value : HasValue x false (digits x * 2 ^ E) (2 ^ 1074)
  value =
      let t = to_bits binary64 x % H in
      let l = (parts x f h).2 in
      let m = mod-lt (to_bits binary64 x) (zero-lt-suc 4503599627370495) in
      subst (λ (y : ℕ). HasValue x false (y * 2 ^ E) (2 ^ 1074)) (add_comm H t)
      (normal_value x f E t (sym (div-add-mod' (to_bits binary64 x) H) ∙ ap (λ (y : ℕ). y * H + t) i) (omega arith) m)

  nearest_at : NearestCubeRoot x (cbrt_of x)
  nearest_at =
      let q = near_cube N in
      let g = range x f h in
      let k = inside x f h in
      let n = near_scaled (digits x * 2 ^ (field x % 3)) k.long k.short in
      record {
        N = N;
        q = q;
        j = j;
        whole = mul-le-mul_right 20282409603651670423947251286016 k.long;
        number = rescale x false (digits x * 2 ^ E) (2 ^ 1074) (N * 8 ^ j) (2 ^ 1179) (pow_pos 1074) (shuffle (digits x) (2 ^ E) (2 ^ (field x % 3)) (8 ^ j) (2 ^ 104) (2 ^ 1074) powers) value;
        root =
            subst (λ (y : Float). HasValue y false (q * 2 ^ j) (2 ^ 393)) (sym (root_is x f h))
            (rescale (odd 53 false q (j + 681) 1074) false (q * 2 ^ (j + 681)) (2 ^ 1074) (q * 2 ^ j) (2 ^ 393) (pow_pos 1074)
            (ap (λ (y : ℕ). q * y * 2 ^ 393) (pow-add 2 j 681) ∙ ap (λ (y : ℕ). y * 2 ^ 393) (sym (mul_assoc q (2 ^ j) (2 ^ 681))) ∙ mul_assoc (q * 2 ^ j) (2 ^ 681) (2 ^ 393))
            (odd_sign 53 false q (j + 681) 1074));
        long = g.0;
        short = g.1;
        above = n.0;
        below = n.1;
      }

pub nearest_cube_root : (x : Float) → T (fits binary64 x) → normal x ≡ true → NearestCubeRoot x (cbrt_of x)
nearest_cube_root x f h = go (field x) refl
  where
    go : (e : ℕ) → field x ≡ e → NearestCubeRoot x (cbrt_of x)
    go zero i = absurd ((normal_field x f h).0 i)
    go (suc E) i = nearest_at x f h E i
