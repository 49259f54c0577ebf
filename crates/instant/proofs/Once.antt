-- One rounding: a division of two whole numbers that are f64s rounds their exact quotient. Assumes nothing.
use mathlib.Core.Path.{◌≡◌, refl, sym, ap, ◌∙◌, subst}
use mathlib.Core.Bool.{Bool, true, false, cond}
use Prim.Native.Nat.{ℕ, zero, suc, ◌*◌, ◌≤◌, ◌<◌}
use native.Mathlib.Nat.{mul-one, mul_comm, mul_assoc, mul_left_comm, mul-pos, zero-mul}
use native.Mathlib.Omega.{arith}
use lib.IntN.{ℤ, pos, negsuc, nat_abs}
use lib.Dec.{eqb, eqb-suc-zero}
use lib.Ieee.{Float, nan, inf, fin, Format, binary64, up, down, unlike, neg, round, div, of_int}
use lib.Ieee.Fits.{down_pos}
use lib.Ieee.Exact.{HasValue}
use lib.Ieee.Scale.{round_same}
use lib.Ieee.Back.{round_whole}
use Rattle.instant.specs.Quantity.{over}
use Rattle.instant.proofs.Signed.{back}
use Rattle.instant.proofs.Long.{neg_round}

plus : (s : Bool) → unlike s false ≡ s
plus true = refl
plus false = refl

div_value : (f : Format) (x y : Float) (s : Bool) (a b : ℕ) → 0 < b → HasValue x s a 1 → HasValue y false b 1 → div f x y ≡ round f s a b
unfolding div
div_value f nan y s a b B v w = absurd v
div_value f (inf t) y s a b B v w = absurd v
div_value f (fin t m e) nan s a b B v w = absurd w
div_value f (fin t m e) (inf u) s a b B v w = absurd w
div_value f (fin t m e) (fin u zero d) s a b B v w =
    let z : 0 * up d * 1 ≡ b * down d = w.1 in
    let p : 0 < b * down d = mul-pos B (down_pos d) in
    let q : 0 * up d * 1 ≡ 0 = mul-one (0 * up d) ∙ zero-mul (up d) in
    absurd (omega arith)
div_value f (fin t m e) (fin u (suc n) d) s a b B v w =
    let x : m * up e ≡ a * down e = sym (mul-one (m * up e)) ∙ v.1 in
    let y : suc n * up d ≡ b * down d = sym (mul-one (suc n * up d)) ∙ w.1 in
    let D : 0 < suc n * up d * down e = subst (λ (z : ℕ). 0 < z * down e) (sym y) (mul-pos (mul-pos B (down_pos d)) (down_pos e)) in
    let k : a * down e * down d * b ≡ a * (b * down d * down e) = simp (mul_assoc, mul_comm, mul_left_comm) in
    ap (λ (c : Bool). cond c (cond (eqb m 0) nan (inf (unlike t u))) (round f (unlike t u) (m * up e * down d) (suc n * up d * down e))) (eqb-suc-zero n)
    ∙ ap (λ (c : Bool). round f c (m * up e * down d) (suc n * up d * down e)) (ap (λ (z : Bool). unlike z u) v.0 ∙ ap (λ (z : Bool). unlike s z) w.0 ∙ plus s)
    ∙ round_same f s (m * up e * down d) (suc n * up d * down e) a b D B
    (ap (λ (z : ℕ). z * down d * b) x ∙ k ∙ sym (ap (λ (z : ℕ). a * (z * down e)) y))

-- the single-rounding fact
pub once : (s : Bool) (n d : ℕ) → n ≤ 9007199254740992 → 0 < d → d ≤ 9007199254740992 → div binary64 (round binary64 s n 1) (round binary64 false d 1) ≡ round binary64 s n d
once s n d h p k = div_value binary64 (round binary64 s n 1) (round binary64 false d 1) s n d p (round_whole binary64 s n h) (round_whole binary64 false d k)

-- for a signed whole number
pub once_signed : (z : ℤ) (d : ℕ) → nat_abs z ≤ 9007199254740992 → 0 < d → d ≤ 9007199254740992 → div binary64 (of_int binary64 z) (round binary64 false d 1) ≡ over z 1 d
unfolding of_int over
once_signed (pos n) d h p k = once false n d h p k ∙ ap (λ (m : ℕ). round binary64 false m d) (sym (mul-one n))
once_signed (negsuc n) d h p k = once true (suc n) d h p k ∙ ap (λ (m : ℕ). round binary64 true m d) (sym (mul-one (suc n)))

-- a signed quotient by its distance from 0
pub over_positive : (z : ℤ) (d : ℕ) → back z ≡ false → round binary64 false (nat_abs z) d ≡ over z 1 d
unfolding over
over_positive (pos n) d b = ap (λ (m : ℕ). round binary64 false m d) (sym (mul-one n))
over_positive (negsuc n) d b = cc

pub over_negative : (z : ℤ) (d : ℕ) → back z ≡ true → neg (round binary64 false (nat_abs z) d) ≡ over z 1 d
unfolding over
over_negative (pos n) d b = cc
over_negative (negsuc n) d b = neg_round (suc n) d ∙ ap (λ (m : ℕ). round binary64 true m d) (sym (mul-one (suc n)))
