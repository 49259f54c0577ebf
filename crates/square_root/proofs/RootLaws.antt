-- The whole square root, the nearest whole number to a root, and one step of the root by halves, on natural numbers. Assumes nothing.
use mathlib.Core.Path.{◌≡◌, refl, sym, ap, ◌∙◌, subst}
use Prim.Native.Nat.{ℕ, zero, suc, ◌+◌, ◌-◌, ◌*◌, ◌/◌, ◌%◌, ◌^◌, ◌≤◌, ◌<◌, zero-le}
use native.Mathlib.Nat.{le_trans, le_of_eq, le_of_lt, le_antisymm, lt_of_not-le, lt_of_le_of_lt, add-sub_of_le, not-le_of_lt, mul-le-mul, mul-le-mul_left, mul-le-mul_right, mul-mul-mul_comm, mul_comm, mul-add, add-mul, add_assoc, add_comm, add_left_comm, mul_assoc, mul_left_comm, mul-one, one-mul, pow-suc, div-lt_iff_lt-mul, div-add-mod', mod-lt, zero-lt-suc, div-le_of_le-mul}
use native.Mathlib.Omega.{arith}
use mathlib.Core.Bool.{Bool, true, false, not, cond}
use lib.Dec.{T, leb, ltb, leb→le, nleb→lt, ltb→lt, nltb→le, lit≤, lit<}
use Rattle.square_root.specs.Root.{isqrt, near_root}

pub sq_mono : {a b : ℕ} → a ≤ b → a * a ≤ b * b
sq_mono h = mul-le-mul h h

pub sq_lt : {a b : ℕ} → a * a < b * b → a < b
sq_lt h = lt_of_not-le (λ g. not-le_of_lt h (sq_mono g))

pub sq_suc : (c : ℕ) → (c + 1) * (c + 1) ≡ c * c + 2 * c + 1
sq_suc c = simp (mul-add, add-mul, mul-one, one-mul) (omega arith)

-- ---- `isqrt` is the whole part of the root
pub twice_sq : (p : ℕ) → 2 * p * (2 * p) ≡ 4 * (p * p)
twice_sq p = mul-mul-mul_comm 2 p 2 p

step : (b : Bool) (p n : ℕ) → (T b → (2 * p + 1) * (2 * p + 1) ≤ n) → (T (not b) → n < (2 * p + 1) * (2 * p + 1)) → p * p ≤ n / 4 → n / 4 < (p + 1) * (p + 1)
    → (cond b (2 * p + 1) (2 * p) * cond b (2 * p + 1) (2 * p) ≤ n) × (n < (cond b (2 * p + 1) (2 * p) + 1) * (cond b (2 * p + 1) (2 * p) + 1))
step true p n y z l h =
    let e : (2 * p + 1 + 1) * (2 * p + 1 + 1) ≡ 4 * (p * p) + 8 * p + 4 = sq_suc (2 * p + 1) ∙ omega (arith, sq_suc (2 * p), twice_sq p) in
    (y tt, omega (arith, e, sq_suc p))
step false p n y z l h = (omega (arith, twice_sq p), z tt)

pub isqrt_is : (k n : ℕ) → n < 4 ^ k → (isqrt k n * isqrt k n ≤ n) × (n < (isqrt k n + 1) * (isqrt k n + 1))
unfolding isqrt
isqrt_is zero n h = (zero-le, h)
isqrt_is (suc k) n h =
    let p = isqrt k (n / 4) in
    let q : n / 4 < 4 ^ k = (div-lt_iff_lt-mul (zero-lt-suc 3)).1 (subst (λ (x : ℕ). n < x) (pow-suc 4 k) h) in
    let i = isqrt_is k (n / 4) q in
    step (leb ((2 * p + 1) * (2 * p + 1)) n) p n (leb→le ((2 * p + 1) * (2 * p + 1)) n) (nleb→lt ((2 * p + 1) * (2 * p + 1)) n) i.0 i.1

-- ---- `near_root` is the nearest whole number to the root: (q - 1/2)² < n < (q + 1/2)², said without fractions
abbrev pub Near : ℕ → ℕ → Type 0
Near n q = (n ≤ q * q + q) × (q * q < n + q)

near_step : (b : Bool) (r n : ℕ) → 0 < n → (T b → r < n - r * r) → (T (not b) → n - r * r ≤ r) → r * r ≤ n → n < (r + 1) * (r + 1) → Near n (cond b (r + 1) r)
near_step true r n P y z l h = let g = y tt in (omega (arith, sq_suc r), omega (arith, sq_suc r))
near_step false zero n P y z l h = (omega (arith, z tt), omega arith)
near_step false (suc r) n P y z l h = (omega (arith, z tt), omega arith)

pub near_holds : (n : ℕ) → 0 < n → n < 4 ^ 53 → Near n (near_root n)
unfolding near_root
near_holds n P h =
    let r = isqrt 53 n in
    let i = isqrt_is 53 n h in
    near_step (ltb r (n - r * r)) r n P (ltb→lt r (n - r * r)) (nltb→le r (n - r * r)) i.0 i.1

-- at most one number is the nearest
apart : (n p q : ℕ) → n ≤ p * p + p → q * q < n + q → q ≤ p
apart n p q a b = lt_le (lt_of_not-le (λ (g : p + 1 ≤ q). none g))
  where
    lt_le : q < p + 1 → q ≤ p
    lt_le h = omega arith

    none : p + 1 ≤ q → ⊥
    none zero-case = go q zero-case b
      where
        go : (q : ℕ) → p + 1 ≤ q → q * q < n + q → ⊥
        go zero g b = omega arith
        go (suc j) g b =
            let k : p ≤ j = omega arith in
            let s : suc j * suc j ≡ j * j + 2 * j + 1 = ap (λ (x : ℕ). x * x) (omega arith) ∙ sq_suc j in
            let m : p * p ≤ j * j = sq_mono k in
            omega arith

pub near_unique : (n p q : ℕ) → Near n p → Near n q → p ≡ q
near_unique n p q a b = le_antisymm (apart n q p b.0 a.1) (apart n p q a.0 b.1)

pub near_is : (n q : ℕ) → 0 < n → n < 4 ^ 53 → Near n q → q ≡ near_root n
near_is n q P h a = near_unique n q (near_root n) a (near_holds n P h)

-- ---- the root of a * B * B from the root s of a
-- with w the remainder, and t and p the quotient and the remainder of w * B by 2 * s
module _ (s w t p B : ℕ) (e : t * (s * 2) + p ≡ w * B) where
  identity : (s * s + w) * (B * B) + t * t ≡ (s * B + t) * (s * B + t) + p * B
  identity =
      let x : w * (B * B) ≡ t * (s * 2) * B + p * B = sym (mul_assoc w B B) ∙ ap (λ (z : ℕ). z * B) (sym e) ∙ add-mul (t * (s * 2)) p B in
      let y : (s * s + w) * (B * B) ≡ s * s * (B * B) + (t * (s * 2) * B + p * B) = add-mul (s * s) w (B * B) ∙ ap (λ (z : ℕ). s * s * (B * B) + z) x in
      let v : (s * B + t) * (s * B + t) ≡ s * s * (B * B) + t * (s * 2) * B + t * t = square in
      omega arith
    where
      cross : s * B * t + t * (s * B) ≡ t * (s * 2) * B
      cross =
          let a1 : s * B * t ≡ t * (s * B) = mul_comm (s * B) t in
          let a2 : t * (s * 2) * B ≡ t * (s * B) * 2 = simp (mul_assoc, mul_comm, mul_left_comm) in
          omega arith

      square : (s * B + t) * (s * B + t) ≡ s * s * (B * B) + t * (s * 2) * B + t * t
      square =
          let b1 : (s * B + t) * (s * B + t) ≡ s * B * (s * B + t) + t * (s * B + t) = add-mul (s * B) t (s * B + t) in
          let b2 : s * B * (s * B + t) ≡ s * B * (s * B) + s * B * t = mul-add (s * B) (s * B) t in
          let b3 : t * (s * B + t) ≡ t * (s * B) + t * t = mul-add t (s * B) t in
          let b4 : s * B * (s * B) ≡ s * s * (B * B) = mul-mul-mul_comm s B s B in
          omega (arith, cross)

-- ---- the same at B = 2 ^ 26, for an a of 53 or 54 digits whose whole root is s
abbrev pub quo : ℕ → ℕ → ℕ
quo a s = (a - s * s) * 67108864 / (s * 2)

abbrev pub rest : ℕ → ℕ → ℕ
rest a s = (a - s * s) * 67108864 % (s * 2)

pub record Sizes (a s : ℕ) : Type 0 where
  pub s_lo : 67108864 ≤ s
  pub s_hi : s < 134217728
  pub w_hi : a - s * s ≤ 2 * s
  pub t_hi : quo a s ≤ 67108864
  pub p_hi : rest a s < s * 2
  pub v_hi : quo a s * quo a s ≤ 4503599627370496
  pub key : a * 4503599627370496 + quo a s * quo a s ≡ (s * 67108864 + quo a s) * (s * 67108864 + quo a s) + rest a s * 67108864

-- that s is the whole root of such an a
pub record Whole (a s : ℕ) : Type 0 where
  pub lo : 4503599627370496 ≤ a
  pub hi : a ≤ 18014398509481982
  pub low : s * s ≤ a
  pub high : a < (s + 1) * (s + 1)

module _ (a s : ℕ) (k : Whole a s) where
  pub sizes : Sizes a s
  sizes =
      let b : 67108864 < s + 1 = sq_lt (lt_of_le_of_lt k.lo k.high) in
      let d : s < 134217728 = sq_lt (lt_of_le_of_lt (le_trans k.low k.hi) (lit< tt)) in
      let w : a - s * s ≤ 2 * s = omega (arith, sq_suc s) in
      let pos : 0 < s * 2 = omega arith in
      let w2 : a - s * s ≤ s * 2 = omega arith in
      let t : quo a s ≤ 67108864 = div-le_of_le-mul (s * 2) (mul-le-mul_right 67108864 w2) in
      let i = identity s (a - s * s) (quo a s) (rest a s) 67108864 (div-add-mod' ((a - s * s) * 67108864) (s * 2)) in
      record {
        s_lo = omega arith;
        s_hi = d;
        w_hi = w;
        t_hi = t;
        p_hi = mod-lt ((a - s * s) * 67108864) pos;
        v_hi = sq_mono t;
        key = subst (λ (x : ℕ). x * 4503599627370496 + quo a s * quo a s ≡ (s * 67108864 + quo a s) * (s * 67108864 + quo a s) + rest a s * 67108864) (add-sub_of_le k.low) i;
      }

  in_range_lem : (0 < a * 4503599627370496) × (a * 4503599627370496 < 4 ^ 53)
  in_range_lem = (omega arith, lt_of_le_of_lt (mul-le-mul_right 4503599627370496 k.hi) (lit< tt))

  pub one_up : quo a s * quo a s + (s * 67108864 + quo a s) < rest a s * 67108864 → s * 67108864 + quo a s + 1 ≡ near_root (a * 4503599627370496)
  one_up g =
      let z = sizes in
      let c = s * 67108864 + quo a s in
      near_is (a * 4503599627370496) (c + 1) in_range_lem.0 in_range_lem.1 (omega (arith, sq_suc c), omega (arith, sq_suc c))

  pub same : rest a s * 67108864 ≤ quo a s * quo a s + (s * 67108864 + quo a s) → quo a s * quo a s < rest a s * 67108864 + (s * 67108864 + quo a s) → s * 67108864 + quo a s ≡ near_root (a * 4503599627370496)
  same g u =
      let z = sizes in
      let c = s * 67108864 + quo a s in
      near_is (a * 4503599627370496) c in_range_lem.0 in_range_lem.1 (omega arith, omega arith)

  pub one_down : rest a s * 67108864 + (s * 67108864 + quo a s) ≤ quo a s * quo a s → s * 67108864 + quo a s - 1 ≡ near_root (a * 4503599627370496)
  one_down g =
      let z = sizes in
      let c = s * 67108864 + quo a s in
      let e : c - 1 + 1 ≡ c = omega arith in
      let q : c * c ≡ (c - 1) * (c - 1) + 2 * (c - 1) + 1 = ap (λ (x : ℕ). x * x) (sym e) ∙ sq_suc (c - 1) in
      near_is (a * 4503599627370496) (c - 1) in_range_lem.0 in_range_lem.1 (omega arith, omega arith)

-- the nearest root has 53 digits
pub near_range : (a : ℕ) → 4503599627370496 ≤ a → a ≤ 18014398509481982 → (4503599627370496 ≤ near_root (a * 4503599627370496)) × (near_root (a * 4503599627370496) < 9007199254740992)
near_range a lo hi =
    let n = a * 4503599627370496 in
    let i = near_holds n (omega arith) (lt_of_le_of_lt (mul-le-mul_right 4503599627370496 hi) (lit< tt)) in
    let x : n ≤ 9007199254740991 * 9007199254740991 + 9007199254740991 = omega arith in
    let y : 4503599627370496 * 4503599627370496 < n + 4503599627370496 = omega arith in
    let u : near_root n ≤ 9007199254740991 = apart n 9007199254740991 (near_root n) x i.1 in
    (apart n (near_root n) 4503599627370496 i.0 y, omega arith)

-- ---- a candidate c, checked: the exact remainder a * 2 ^ 52 - c * c, with 2 ^ 54 added so that it is not negative
module _ (s w t u B o : ℕ) (e : t * (s * 2) + u ≡ w * B + o) where
  offset_identity : (s * s + w) * (B * B) + (t * t + o * B) ≡ (s * B + t) * (s * B + t) + u * B
  offset_identity =
      let x : w * (B * B) + o * B ≡ t * (s * 2) * B + u * B = ap (λ (z : ℕ). z + o * B) (sym (mul_assoc w B B)) ∙ sym (add-mul (w * B) o B) ∙ ap (λ (z : ℕ). z * B) (sym e) ∙ add-mul (t * (s * 2)) u B in
      let y : (s * s + w) * (B * B) ≡ s * s * (B * B) + w * (B * B) = add-mul (s * s) w (B * B) in
      let a1 : s * B * t ≡ t * (s * B) = mul_comm (s * B) t in
      let a2 : t * (s * 2) * B ≡ t * (s * B) * 2 = simp (mul_assoc, mul_comm, mul_left_comm) in
      let b1 : (s * B + t) * (s * B + t) ≡ s * B * (s * B + t) + t * (s * B + t) = add-mul (s * B) t (s * B + t) in
      let b2 : s * B * (s * B + t) ≡ s * B * (s * B) + s * B * t = mul-add (s * B) (s * B) t in
      let b3 : t * (s * B + t) ≡ t * (s * B) + t * t = mul-add t (s * B) t in
      let b4 : s * B * (s * B) ≡ s * s * (B * B) = mul-mul-mul_comm s B s B in
      omega arith

abbrev pub hi26 : ℕ → ℕ
hi26 c = c / 67108864

abbrev pub lo26 : ℕ → ℕ
lo26 c = c % 67108864

-- the remainder by 2 ^ 26, with 2 ^ 28 added
abbrev pub left : ℕ → ℕ → ℕ
left a c = (a - hi26 c * hi26 c) * 67108864 + 268435456 - lo26 c * (hi26 c * 2)

pub record Halves (c : ℕ) : Type 0 where
  pub hi_lt : hi26 c < 134217728
  pub lo_lt : lo26 c < 67108864
  pub hh : hi26 c * hi26 c ≤ 18014398509481984
  pub ll : lo26 c * lo26 c ≤ 4503599627370496
  pub lh : lo26 c * (hi26 c * 2) ≤ 18014398509481984

pub halves : (c : ℕ) → c < 9007199254740992 → Halves c
halves c h =
    let a : hi26 c < 134217728 = omega arith in
    let b : lo26 c < 67108864 = mod-lt c (zero-lt-suc 67108863) in
    let d : hi26 c * 2 ≤ 268435456 = omega arith in
    record { hi_lt = a; lo_lt = b; hh = sq_mono (le_of_lt a); ll = sq_mono (le_of_lt b); lh = mul-le-mul (le_of_lt b) d }

module _ (a c : ℕ) (lo : 4503599627370496 ≤ a) (hi : a ≤ 18014398509481982) (p : hi26 c * hi26 c ≤ a) (q : lo26 c * (hi26 c * 2) ≤ (a - hi26 c * hi26 c) * 67108864 + 268435456) where
  exact : a * 4503599627370496 + (lo26 c * lo26 c + 18014398509481984) ≡ c * c + left a c * 67108864
  exact =
      let w = a - hi26 c * hi26 c in
      let e : lo26 c * (hi26 c * 2) + left a c ≡ w * 67108864 + 268435456 = add-sub_of_le q in
      let i = offset_identity (hi26 c) w (lo26 c) (left a c) 67108864 268435456 e in
      let j : hi26 c * hi26 c + w ≡ a = add-sub_of_le p in
      let k : hi26 c * 67108864 + lo26 c ≡ c = div-add-mod' c 67108864 in
      subst (λ (z : ℕ). a * 4503599627370496 + (lo26 c * lo26 c + 18014398509481984) ≡ z * z + left a c * 67108864) k
      (subst (λ (z : ℕ). z * 4503599627370496 + (lo26 c * lo26 c + 18014398509481984) ≡ (hi26 c * 67108864 + lo26 c) * (hi26 c * 67108864 + lo26 c) + left a c * 67108864) j i)

  inside : (0 < a * 4503599627370496) × (a * 4503599627370496 < 4 ^ 53)
  inside = (omega arith, lt_of_le_of_lt (mul-le-mul_right 4503599627370496 hi) (lit< tt))

  pub check_up : left a c * 67108864 ≤ lo26 c * lo26 c + 18014398509481984 + 3 * c → lo26 c * lo26 c + 18014398509481984 + c < left a c * 67108864 → c + 1 ≡ near_root (a * 4503599627370496)
  check_up f g = let k = exact in near_is (a * 4503599627370496) (c + 1) inside.0 inside.1 (omega (arith, sq_suc c), omega (arith, sq_suc c))

  pub check_same : left a c * 67108864 ≤ lo26 c * lo26 c + 18014398509481984 + c → lo26 c * lo26 c + 18014398509481984 < left a c * 67108864 + c → c ≡ near_root (a * 4503599627370496)
  check_same f g = let k = exact in near_is (a * 4503599627370496) c inside.0 inside.1 (omega arith, omega arith)

  pub check_down : 1 ≤ c → lo26 c * lo26 c + 18014398509481984 + 2 < left a c * 67108864 + 3 * c → left a c * 67108864 + c ≤ lo26 c * lo26 c + 18014398509481984 → c - 1 ≡ near_root (a * 4503599627370496)
  check_down P f g =
      let k = exact in
      let e : c - 1 + 1 ≡ c = omega arith in
      let z : c * c ≡ (c - 1) * (c - 1) + 2 * (c - 1) + 1 = ap (λ (x : ℕ). x * x) (sym e) ∙ sq_suc (c - 1) in
      near_is (a * 4503599627370496) (c - 1) inside.0 inside.1 (omega arith, omega arith)

  -- the neighbour that the remainder shows
  pick : (up down : Bool) → (T up → lo26 c * lo26 c + 18014398509481984 + c < left a c * 67108864) → (T (not up) → left a c * 67108864 ≤ lo26 c * lo26 c + 18014398509481984 + c)
      → (T down → left a c * 67108864 + c ≤ lo26 c * lo26 c + 18014398509481984) → (T (not down) → lo26 c * lo26 c + 18014398509481984 < left a c * 67108864 + c)
      → 1 ≤ c → left a c * 67108864 ≤ lo26 c * lo26 c + 18014398509481984 + 3 * c → lo26 c * lo26 c + 18014398509481984 + 2 < left a c * 67108864 + 3 * c
      → cond up (c + 1) (cond down (c - 1) c) ≡ near_root (a * 4503599627370496)
  pick true down y n d m P f g = check_up f (y tt)
  pick false true y n d m P f g = check_down P g (d tt)
  pick false false y n d m P f g = check_same (n tt) (m tt)

  pub check_neighbour : 1 ≤ c → left a c * 67108864 ≤ lo26 c * lo26 c + 18014398509481984 + 3 * c → lo26 c * lo26 c + 18014398509481984 + 2 < left a c * 67108864 + 3 * c
      → cond (ltb (lo26 c * lo26 c + 18014398509481984 + c) (left a c * 67108864)) (c + 1) (cond (leb (left a c * 67108864 + c) (lo26 c * lo26 c + 18014398509481984)) (c - 1) c) ≡ near_root (a * 4503599627370496)
  check_neighbour =
      let v = lo26 c * lo26 c + 18014398509481984 in
      let d = left a c * 67108864 in
      pick (ltb (v + c) d) (leb (d + c) v) (ltb→lt (v + c) d) (nltb→le (v + c) d) (leb→le (d + c) v) (nleb→lt (d + c) v)
