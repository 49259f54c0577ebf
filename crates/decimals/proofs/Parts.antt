-- A number of 53 binary digits over a power of 2, taken apart into whole part and fraction. Assumes nothing.
use mathlib.Core.Path.{◌≡◌, refl, sym, ap, ◌∙◌}
use Prim.Native.Nat.{ℕ, ◌+◌, ◌-◌, ◌*◌, ◌/◌, ◌%◌, ◌^◌, ◌≤◌, ◌<◌}
use native.Mathlib.Nat.{mod-eq_of_lt, one-mul, zero-mul, zero-add, add-mul, mul_assoc, mul_comm, mul_left_comm, mul_right_comm, mod-lt, div-le_self, lt_of_le_of_lt, lt_of_lt_of_le, le_of_eq, mul-lt-mul_of_pos_right, mul-pos, pow-le-pow_right, div-add-mod', zero-lt-suc}
use native.Mathlib.Omega.{arith}
use lib.Pow.{pow-lt, pow-add, pow_pos}
use lib.Ieee.Nearest.{closest_same}
use Rattle.decimals.specs.Fixed.{nearest_whole}
use Rattle.decimals.specs.Parts.{Parts}
use Rattle.decimals.proofs.Near.{B, even_more}

-- 1 << k
pub shl : (k : ℕ) → k < 64 → (1 * 2 ^ k) % 18446744073709551616 ≡ 2 ^ k
shl k h = ap (λ (z : ℕ). z % 18446744073709551616) (one-mul (2 ^ k)) ∙ mod-eq_of_lt (pow-lt h)

two_le : (k j : ℕ) → k ≤ j → 2 ^ k ≤ 2 ^ j
two_le k j h = pow-le-pow_right {n = 2} (zero-lt-suc 1) {i = k} {j = j} h

module _ (m e : ℕ) (l : m < 9007199254740992) where
  -- below 1
  pub below_one : 992 ≤ e → e < 1023 → Parts m e 0 m ((1 * 2 ^ (1043 - e)) % 18446744073709551616)
  below_one h g =
      let k : 1043 - e ≤ 51 = omega arith in
      let s : 32 + (1043 - e) ≡ 1075 - e = omega arith in
      let p : 2 ^ (1075 - e) ≡ B * 2 ^ (1043 - e) = ap (λ (z : ℕ). 2 ^ z) (sym s) ∙ pow-add 2 32 (1043 - e) in
      rw (shl (1043 - e) (omega arith)) (record {
        equal = ap (λ (z : ℕ). m * z) (sym p) ∙ ap (λ (z : ℕ). z * 2 ^ (1075 - e)) (sym (zero-add m)) ∙ ap (λ (z : ℕ). (z + m) * 2 ^ (1075 - e)) (sym (zero-mul (B * 2 ^ (1043 - e))));
        few = omega arith;
        short = l;
        least = pow_pos (1043 - e);
        most = two_le (1043 - e) 51 k;
      })

  abbrev D : ℕ
  D = 2 ^ (1075 - e)

  abbrev S : ℕ
  S = 2 ^ (e - 1022)

  module _ (h : 1023 ≤ e) (g : e ≤ 1062) where
    product : D * S ≡ 9007199254740992
    product =
        let s : (1075 - e) + (e - 1022) ≡ 53 = omega arith in
        sym (pow-add 2 (1075 - e) (e - 1022)) ∙ ap (λ (z : ℕ). 2 ^ z) s

    pub rest_short : m % D * S < 9007199254740992
    rest_short = lt_of_lt_of_le (mul-lt-mul_of_pos_right (mod-lt m (pow_pos (1075 - e))) (pow_pos (e - 1022))) (le_of_eq product)

    expand : (q r d s w : ℕ) → d * s ≡ w → (q * d + r) * w ≡ (q * w + r * s) * d
    expand q r d s w e =
        let a : q * d * w ≡ q * w * d = mul_right_comm q d w in
        let b : r * (d * s) ≡ r * s * d = ap (λ (z : ℕ). r * z) (mul_comm d s) ∙ sym (mul_assoc r s d) in
        let c : r * (d * s) ≡ r * w = ap (λ (z : ℕ). r * z) e in
        add-mul (q * d) r w ∙ ap (λ (z : ℕ). z + r * w) a ∙ ap (λ (z : ℕ). q * w * d + z) (sym c ∙ b) ∙ sym (add-mul (q * w) (r * s) d)

    pub from_one : Parts m e (m / D) (m % D * S) 2097152
    from_one = record {
      equal = ap (λ (z : ℕ). z * 9007199254740992) (sym (div-add-mod' m D)) ∙ expand (m / D) (m % D) D S 9007199254740992 product;
      few = lt_of_le_of_lt (div-le_self m D) l;
      short = rest_short;
      least = omega arith;
      most = omega arith;
    }

-- the units of the fraction, and an even number for each of the whole part
pub gathered : (m e ten whole part down : ℕ) → Parts m e whole part down → ten % 2 ≡ 0
    → nearest_whole (m * ten) (2 ^ (1075 - e)) ≡ whole * ten + nearest_whole (part * ten) (B * down)
gathered m e ten whole part down p t =
    let C = B * down in
    let n : 1 ≤ C = mul-pos {m = B} {n = down} (zero-lt-suc 4294967295) p.least in
    let w : m * ten * C ≡ (whole * C + part) * ten * 2 ^ (1075 - e) =
    mul_right_comm m ten C ∙ ap (λ (z : ℕ). z * ten) p.equal ∙ mul_right_comm (whole * C + part) (2 ^ (1075 - e)) ten in
    let h : ten ≡ ten / 2 * 2 = omega arith in
    let k : 2 * (whole * (ten / 2)) ≡ whole * ten = mul_left_comm 2 whole (ten / 2) ∙ ap (λ (z : ℕ). whole * z) (mul_comm 2 (ten / 2) ∙ sym h) in
    let x : (whole * C + part) * ten ≡ whole * ten * C + part * ten = add-mul (whole * C) part ten ∙ ap (λ (z : ℕ). z + part * ten) (mul_right_comm whole C ten) in
    closest_same (m * ten) (2 ^ (1075 - e)) ((whole * C + part) * ten) C (pow_pos (1075 - e)) n w
    ∙ ap (λ (z : ℕ). nearest_whole z C) (x ∙ ap (λ (z : ℕ). z * C + part * ten) (sym k))
    ∙ even_more (whole * (ten / 2)) (part * ten) C n
    ∙ ap (λ (z : ℕ). z + nearest_whole (part * ten) C) k
