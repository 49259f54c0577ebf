-- The remainder by two pi in whole numbers of 2 ^ -50, of which two pi is 7074237752028440. Assumes nothing.
use mathlib.Core.Path.{◌≡◌, refl, sym, ap, ◌∙◌, subst}
use Prim.Native.Nat.{ℕ, zero, suc, ◌+◌, ◌-◌, ◌*◌, ◌/◌, ◌%◌, ◌^◌, ◌≤◌, ◌<◌, compare}
use native.Mathlib.Nat.{le_trans, le_of_lt, lt_of_lt_of_le, lt_of_not-le, not-le_of_lt, le-add_right, mul_assoc, mul_comm, mul_right_comm, add-mul, add_comm, mul-pos, mul-le-mul, mul-le-mul_left, mul-le-mul_right, mul-lt-mul_of_pos_right, mul-add-mod_self_right, mod-eq_of_lt, mod-lt, div-add-mod', zero-lt-suc}
use native.Mathlib.Omega.{arith}
use mathlib.Core.Bool.{Bool, true, false, not, cond, true≢false, false≢true}
use lib.IntN.{ℤ, pos, negsuc}
use lib.Dec.{T, ltb, lt→ltb, lit<}
use borrow.Author.Tests.{ltb-false}
use lib.Pow.{pow-add, pow_pos, pow_mono}
use lib.Ieee.{Float, nan, inf, fin, Format, prec, emax, low, binary64, up, down, odd, units, size, nearest, round, of_int, div, rem, neg, le, fits, lt, to_bits}
use lib.Ieee.Fits.{down_pos}
use lib.Ieee.Exact.{HasValue}
use lib.Ieee.Order.{le_of_values}
use lib.Ieee.Scale.{round_same}
use lib.Ieee.Positive.{positive, first_pos, values_of_le}
use lib.Ieee.Back.{round_whole}
use Rattle.trigonometry.specs.Trig.{turned}
use Rattle.floats.proofs.Patterns.{H, rescale, regroup, normal_value, subnormal_value, positive_bits}

abbrev turn : ℕ
turn = 7074237752028440

-- ---- a factor goes into a remainder and out of it
small_mod : (q r b : ℕ) → r < b → (q * b + r) % b ≡ r
small_mod q r b h = mul-add-mod_self_right q b r ∙ mod-eq_of_lt h

mod_scale : (a b c : ℕ) → 0 < b → 0 < c → a * c % (b * c) ≡ a % b * c
mod_scale a b c B C =
    ap (λ (z : ℕ). z % (b * c)) (ap (λ (z : ℕ). z * c) (sym (div-add-mod' a b)) ∙ add-mul (a / b * b) (a % b) c ∙ ap (λ (z : ℕ). z + a % b * c) (mul_assoc (a / b) b c))
    ∙ small_mod (a / b) (a % b * c) (b * c) (mul-lt-mul_of_pos_right (mod-lt a B) C)

mod_mul : (a c b : ℕ) → a % b * c % b ≡ a * c % b
mod_mul a c b =
    sym
    (ap (λ (z : ℕ). z % b) (ap (λ (z : ℕ). z * c) (sym (div-add-mod' a b)) ∙ add-mul (a / b * b) (a % b) c ∙ ap (λ (z : ℕ). z + a % b * c) (mul_right_comm (a / b) b c))
    ∙ mul-add-mod_self_right (a / b * c) b (a % b * c))

-- ---- the two roundings are of the same fraction
rem_units : (x : Float) (n : ℕ) → HasValue x false n (2 ^ 50) → rem binary64 x (fin false 884279719003555 (negsuc 46)) ≡ round binary64 false (n % turn) (2 ^ 50)
unfolding rem
rem_units nan n v = elim v [ ]
rem_units (inf _) n v = elim v [ ]
rem_units (fin s m e) n v =
    let a = m * up e * 2 ^ 47 in
    let b = 884279719003555 * 1 * down e in
    let c = down e * 2 ^ 47 in
    let x : a * 8 ≡ n * down e = mul_assoc (m * up e) (2 ^ 47) 8 ∙ v.1 in
    let y : b * 8 ≡ turn * down e = mul_right_comm 884279719003555 (down e) 8 in
    let p : 0 < b = mul-pos (zero-lt-suc 884279719003554) (down_pos e) in
    let r : a % b * 8 ≡ n % turn * down e = sym (mod_scale a b 8 p (zero-lt-suc 7)) ∙ ap (λ (z : ℕ). z % (b * 8)) x ∙ ap (λ (z : ℕ). n * down e % z) y ∙ mod_scale n turn (down e) (zero-lt-suc 7074237752028439) (down_pos e) in
    ap (λ (t : Bool). round binary64 t (a % b) c) v.0
    ∙ round_same binary64 false (a % b) c (n % turn) (2 ^ 50) (mul-pos (down_pos e) (pow_pos 47)) (pow_pos 50)
    (sym (mul_assoc (a % b) 8 (2 ^ 47)) ∙ ap (λ (z : ℕ). z * 2 ^ 47) r ∙ mul_assoc (n % turn) (down e) (2 ^ 47))

over_units : (y : Float) (r : ℕ) → HasValue y false r 1 → div binary64 y (fin false 1 (pos 50)) ≡ round binary64 false r (2 ^ 50)
unfolding div
over_units nan r v = elim v [ ]
over_units (inf _) r v = elim v [ ]
over_units (fin true m e) r v = absurd (true≢false v.0)
over_units (fin false m e) r v =
    round_same binary64 false (m * up e * 1) (1 * 2 ^ 50 * down e) r (2 ^ 50) (mul-pos (pow_pos 50) (down_pos e)) (pow_pos 50)
    (ap (λ (z : ℕ). z * 2 ^ 50) v.1 ∙ mul_assoc r (down e) (2 ^ 50) ∙ ap (λ (z : ℕ). r * z) (mul_comm (down e) (2 ^ 50)))

pub quotient : (x : Float) (n r : ℕ) → HasValue x false n (2 ^ 50) → r ≡ n % turn → div binary64 (of_int binary64 (pos r)) (fin false 1 (pos 50)) ≡ turned x
unfolding of_int turned
quotient x n r v h =
    let l : n % turn < turn = mod-lt n (zero-lt-suc 7074237752028439) in
    over_units (round binary64 false r 1) r (round_whole binary64 false r (omega arith)) ∙ ap (λ (z : ℕ). round binary64 false z (2 ^ 50)) h ∙ sym (rem_units x n v)

-- ---- an x that is not below two pi: a positive number, or an infinity or a NaN

-- two pi itself
abbrev two_pi : Float
two_pi = fin false 884279719003555 (negsuc 46)

above : (m : ℕ) (e : ℤ) → ltb (m * up e * 2 ^ 47) (884279719003555 * 1 * down e) ≡ false → T (positive (fin false m e)) × T (le two_pi (fin false m e))
above m e l =
    let h : 884279719003555 * 1 * down e ≤ m * up e * 2 ^ 47 = ltb-false (m * up e * 2 ^ 47) (884279719003555 * 1 * down e) l in
    let p : 0 < 884279719003555 * 1 * down e = mul-pos (zero-lt-suc 884279719003554) (down_pos e) in
    let q : T (positive (fin false m e)) = lt→ltb 0 m (first_pos m (up e) (first_pos (m * up e) (2 ^ 47) (lt_of_lt_of_le p h))) in
    (q, le_of_values two_pi (fin false m e) 884279719003555 (2 ^ 47) (m * up e) (down e) (pow_pos 47) (down_pos e) (refl, refl) (refl, refl) h)

pub number_above : (x : Float) → lt x two_pi ≡ false → lt x (inf false) ≡ true → T (positive x) × T (le two_pi x)
unfolding lt
number_above nan l h = absurd (false≢true h)
number_above (inf true) l h = absurd (true≢false l)
number_above (inf false) l h = absurd (false≢true h)
number_above (fin true m e) l h =
    let z : m * up e * 2 ^ 47 + 884279719003555 * 1 * down e ≤ 0 = ltb-false 0 (m * up e * 2 ^ 47 + 884279719003555 * 1 * down e) l in
    let p : 0 < 884279719003555 * 1 * down e = mul-pos (zero-lt-suc 884279719003554) (down_pos e) in
    absurd (omega arith)
number_above (fin false m e) l h = above m e l

pub no_number : (x : Float) → lt x two_pi ≡ false → lt x (inf false) ≡ false → nan ≡ turned x
unfolding lt turned rem
no_number nan l h = refl
no_number (inf s) l h = refl
no_number (fin s m e) l h = absurd (true≢false h)

-- the same test of the other side
pub other_side_lem : (x : Float) → lt (fin true 884279719003555 (negsuc 46)) x ≡ false → lt (neg x) two_pi ≡ false
unfolding lt neg
other_side_lem nan h = refl
other_side_lem (inf true) h = refl
other_side_lem (inf false) h = h
other_side_lem (fin true m e) h = h
other_side_lem (fin false m e) h = ap (ltb 0) (add_comm (m * up e * 2 ^ 47) (884279719003555 * 1 * down e)) ∙ h

-- ---- the digits and the place of a number from two pi on
pub record Turned (x : Float) : Type 0 where
  pub low : 1025 ≤ to_bits binary64 x / H
  pub value : HasValue x false ((to_bits binary64 x % H + H) * 2 ^ (to_bits binary64 x / H - 1025)) (2 ^ 50)

module _ (x : Float) (f : T (fits binary64 x)) (is_positive : T (positive x)) (lo : T (le two_pi x)) where
  from : (a : ℕ) → HasValue x false a (2 ^ 1074) → 884279719003555 * 2 ^ 1074 ≤ a * 2 ^ 47
  from a v = values_of_le two_pi x 884279719003555 (2 ^ 47) a (2 ^ 1074) tt is_positive (refl, refl) v lo

  place : (E t : ℕ) → HasValue x false ((H + t) * 2 ^ E) (2 ^ 1074) → t < H → 1023 < E
  place E t v l = lt_of_not-le below
    where
      below : E ≤ 1023 → ⊥
      below g =
          let w : H + t ≤ 9007199254740992 = omega arith in
          not-le_of_lt (lit< {m = 9007199254740992 * 2 ^ 1023 * 2 ^ 47} {n = 884279719003555 * 2 ^ 1074} tt)
          (le_trans (from ((H + t) * 2 ^ E) v) (mul-le-mul_right (2 ^ 47) (mul-le-mul w (pow_mono g))))

  pub turned_digits : Turned x
  turned_digits = go (to_bits binary64 x / H) refl
    where
      go : (e : ℕ) → to_bits binary64 x / H ≡ e → Turned x
      go zero i =
          let l : to_bits binary64 x % H < H = mod-lt (to_bits binary64 x) (zero-lt-suc 4503599627370495) in
          absurd (not-le_of_lt (lit< {m = H * 2 ^ 47} {n = 884279719003555 * 2 ^ 1074} tt) (le_trans (from (to_bits binary64 x % H) (subnormal_value x f i)) (mul-le-mul_right (2 ^ 47) (le_of_lt l))))
      go (suc E) i =
          let t = to_bits binary64 x % H in
          let l : t < H = mod-lt (to_bits binary64 x) (zero-lt-suc 4503599627370495) in
          let top = positive_bits x f is_positive in
          let v = normal_value x f E t (sym (div-add-mod' (to_bits binary64 x) H) ∙ ap (λ (y : ℕ). y * H + t) i) (omega arith) l in
          let p = place E t v l in
          let k = suc E - 1025 in
          let e : 1024 + k ≡ E = omega arith in
          record {
            low = omega arith;
            value =
                subst (λ (z : ℕ). HasValue x false ((t + H) * 2 ^ (z - 1025)) (2 ^ 50)) (sym i)
                (rescale x false ((H + t) * 2 ^ E) (2 ^ 1074) ((t + H) * 2 ^ k) (2 ^ 50) (pow_pos 1074)
                (ap (λ (z : ℕ). (H + t) * z * 2 ^ 50) (ap (λ (z : ℕ). 2 ^ z) (sym e) ∙ pow-add 2 1024 k) ∙ regroup (H + t) (2 ^ 1024) (2 ^ k) (2 ^ 50) ∙ ap (λ (z : ℕ). z * 2 ^ k * 2 ^ 1074) (add_comm H t))
                v);
          }

-- ---- the remainder of a negative number
neg_units : (f : Format) (s : Bool) (q k : ℕ) → neg (units f s q k) ≡ units f (not s) q k
unfolding neg units
neg_units f s q k = go (ltb (q * 2 ^ k) (2 ^ (low f + suc (emax f)))) q
  where
    go : (b : Bool) (q : ℕ) → neg (cond b (odd (suc (prec f)) s q k (low f)) (inf s)) ≡ cond b (odd (suc (prec f)) (not s) q k (low f)) (inf (not s))
    go true zero = refl
    go true (suc q) = refl
    go false q = refl

neg_round : (s : Bool) (a c : ℕ) → neg (round binary64 s a c) ≡ round binary64 (not s) a c
unfolding round
neg_round s a c =
    let n = a * 2 ^ 1074 in
    let k = size (n / c) - 53 in
    neg_units binary64 s (nearest (n / (c * 2 ^ k)) (compare (n % (c * 2 ^ k) * 2) (c * 2 ^ k))) k

pub neg_turned : (x : Float) → neg (turned (neg x)) ≡ turned x
unfolding turned rem neg
neg_turned nan = refl
neg_turned (inf s) = refl
neg_turned (fin true m e) = neg_round false (m * up e * 2 ^ 47 % (884279719003555 * 1 * down e)) (down e * 2 ^ 47)
neg_turned (fin false m e) = neg_round true (m * up e * 2 ^ 47 % (884279719003555 * 1 * down e)) (down e * 2 ^ 47)

-- ---- m * 2 ^ k by the turn, eleven digits at a time
pub eleven : (r k : ℕ) → 11 ≤ k → r * 2048 % turn * 2 ^ (k - 11) % turn ≡ r * 2 ^ k % turn
eleven r k l =
    let e : 11 + (k - 11) ≡ k = omega arith in
    mod_mul (r * 2048) (2 ^ (k - 11)) turn
    ∙ ap (λ (z : ℕ). z % turn) (mul_assoc r 2048 (2 ^ (k - 11)) ∙ ap (λ (z : ℕ). r * z) (sym (pow-add 2 11 (k - 11)) ∙ ap (λ (z : ℕ). 2 ^ z) e))

pub last : (r k : ℕ) → r < 9007199254740992 → k ≤ 11 → r * 2 ^ k % 18446744073709551616 % turn ≡ r * 2 ^ k % turn
last r k h l = ap (λ (z : ℕ). z % turn) (mod-eq_of_lt (lt_of_lt_of_le (mul-lt-mul_of_pos_right h (pow_pos k)) (mul-le-mul_left 9007199254740992 (pow_mono l))))

pub below_turn : (n : ℕ) → n % turn < 9007199254740992
below_turn n = let l : n % turn < turn = mod-lt n (zero-lt-suc 7074237752028439) in omega arith
