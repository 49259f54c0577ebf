-- 4096 times the rounded n / (d * 4096) is the rounded n / d, for any n of 64 binary digits: so that a division by a small d can be made one by a larger. Assumes nothing.
use mathlib.Core.Path.{◌≡◌, sym, ap, ◌∙◌, subst}
use mathlib.Core.Bool.{Bool, false}
use Prim.Native.Nat.{ℕ, ◌+◌, ◌*◌, ◌/◌, ◌%◌, ◌^◌, ◌≤◌, ◌<◌, compare}
use native.Mathlib.Nat.{le_trans, le_of_eq, lt_of_lt_of_le, lt_of_le_of_lt, mul-one, mul_comm, mul_assoc, mul-mul-mul_comm, mul-pos, mul-le-mul_right, mul-le-mul_left, mul-lt-mul_of_pos_right, div-lt_iff_lt-mul, div-div-eq-div-mul}
use native.Mathlib.Omega.{arith}
use lib.Dec.{lit≤}
use lib.Pow.{pow-add, pow_pos, pow-lt}
use lib.Ieee.{Float, nan, inf, fin, Format, binary64, up, down, unlike, mul, round}
use lib.Ieee.Digits.{size-le}
use lib.Ieee.Fits.{down_pos, round-fits, nearest-le, kept-lt}
use lib.Ieee.Exact.{HasValue}
use lib.Ieee.Back.{round_whole}
use lib.Ieee.Scale.{round_same, grid, grid_scale, round_val, normal_of_fraction}
use lib.Ieee.Order.{drop, kept}
use Rattle.instant.proofs.Long.{unique, value}

-- a product, by fractions that the factors equal
mul_value : (f : Format) (x y : Float) (a c b k : ℕ) → 0 < c → 0 < k → HasValue x false a c → HasValue y false b k → mul f x y ≡ round f false (a * b) (c * k)
unfolding mul
mul_value f nan y a c b k C K v w = absurd v
mul_value f (inf t) y a c b k C K v w = absurd v
mul_value f (fin t m e) nan a c b k C K v w = absurd w
mul_value f (fin t m e) (inf u) a c b k C K v w = absurd w
mul_value f (fin t m e) (fin u n d) a c b k C K v w =
    ap (λ (z : Bool). round f z (m * up e * (n * up d)) (down e * down d)) (ap (λ (z : Bool). unlike z u) v.0 ∙ ap (λ (z : Bool). unlike false z) w.0)
    ∙ round_same f false (m * up e * (n * up d)) (down e * down d) (a * b) (c * k) (mul-pos (down_pos e) (down_pos d)) (mul-pos C K)
    (mul-mul-mul_comm (m * up e) (n * up d) c k ∙ ap (λ (z : ℕ). z * (n * up d * k)) v.1 ∙ ap (λ (z : ℕ). a * down e * z) w.1 ∙ mul-mul-mul_comm a (down e) b (down d))

-- at most 53 digits are kept, and few are dropped
kept_le : (n c : ℕ) → kept 53 n c ≤ 2 ^ 53
kept_le n c =
    let k = drop 53 n c in
    let u = c * 2 ^ k in
    le_trans (nearest-le (n / u) (compare (n % u * 2) u)) (subst (λ (x : ℕ). x < 2 ^ 53) (div-div-eq-div-mul n c (2 ^ k)) (kept-lt 53 (n / c)))

drop_le : (n c : ℕ) → 0 < c → n < 2 ^ 64 → drop 53 (n * 2 ^ 1074) c ≤ 1085
drop_le n c C h =
    let a : n * 2 ^ 1074 < 2 ^ 1138 = mul-lt-mul_of_pos_right h (pow_pos 1074) in
    let b : n * 2 ^ 1074 < 2 ^ 1138 * c = lt_of_lt_of_le a (le_trans (le_of_eq (sym (mul-one (2 ^ 1138)))) (mul-le-mul_left (2 ^ 1138) C)) in
    let z = size-le (n * 2 ^ 1074 / c) 1138 ((div-lt_iff_lt-mul C).1 b) in
    omega arith

room : (q j : ℕ) → q ≤ 2 ^ 53 → j ≤ 2000 → q * 2 ^ j < 2 ^ 2098
room q j Q J = lt_of_le_of_lt (mul-le-mul_right (2 ^ j) Q) (lt_of_le_of_lt (le_of_eq (sym (pow-add 2 53 j))) (pow-lt {j = 2098} (omega arith)))

pub grow : (n d : ℕ) → 0 < n → n < 2 ^ 64 → 0 < d → d < 4096 → mul binary64 (round binary64 false n (d * 4096)) (round binary64 false 4096 1) ≡ round binary64 false n d
grow n d N N' D D' =
    let c = d * 4096 in
    let C : 0 < c = omega arith in
    let m = n * 2 ^ 1074 in
    let q = kept 53 m c in
    let j = drop 53 m c in
    let Q : q ≤ 2 ^ 53 = kept_le m c in
    let J : j ≤ 1085 = drop_le n c C N' in
    let g = q * 2 ^ j in
    let more : g * 4096 ≡ q * 2 ^ (j + 12) = mul_assoc q (2 ^ j) 4096 ∙ ap (λ (z : ℕ). q * z) (sym (pow-add 2 j 12)) in
    let normal : 2 ^ 52 * c ≤ n * 2 ^ 1074 = le_trans (mul-le-mul_left (2 ^ 52) (let a : c ≤ 2 ^ 24 = omega arith in a)) (le_trans (lit≤ {m = 2 ^ 52 * 2 ^ 24} {n = 1 * 2 ^ 1074} tt) (mul-le-mul_right (2 ^ 1074) N)) in
    let scaled : grid binary64 (n * 4096) c ≡ g * 4096 = grid_scale binary64 n c 12 C (normal_of_fraction binary64 n c C normal) in
    let small : g < 2 ^ 2098 = room q j Q (omega arith) in
    let large : q * 2 ^ (j + 12) < 2 ^ 2098 = room q (j + 12) Q (omega arith) in
    mul_value binary64 (round binary64 false n c) (round binary64 false 4096 1) g (2 ^ 1074) 4096 1 (pow_pos 1074) (pow_pos 0) (round_val binary64 n c small) (round_whole binary64 false 4096 (lit≤ tt))
    ∙ ap (λ (z : ℕ). round binary64 false z (2 ^ 1074)) more
    ∙ unique binary64 (round binary64 false (q * 2 ^ (j + 12)) (2 ^ 1074)) (round binary64 false (n * 4096) c) false (q * 2 ^ (j + 12)) (2 ^ 1074) (pow_pos 1074) (round-fits binary64 false (q * 2 ^ (j + 12)) (2 ^ 1074)) (round-fits binary64 false (n * 4096) c)
    (value false q (j + 12) Q (omega arith))
    (subst (λ (z : ℕ). HasValue (round binary64 false (n * 4096) c) false z (2 ^ 1074)) (scaled ∙ more) (round_val binary64 (n * 4096) c (subst (λ (z : ℕ). z < 2 ^ 2098) (sym (scaled ∙ more)) large)))
    ∙ round_same binary64 false (n * 4096) c n d C D (mul_assoc n 4096 d ∙ ap (λ (z : ℕ). n * z) (mul_comm 4096 d))
