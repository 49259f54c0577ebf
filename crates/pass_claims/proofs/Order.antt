-- `lt` orders the numbers: nothing is below itself, and what is below is below what is above. Assumes nothing.
use mathlib.Core.Path.{◌≡◌, refl, sym, ◌∙◌}
use mathlib.Core.Bool.{Bool, true, false, not, ◌&&◌, false≢true}
use Prim.Native.Nat.{ℕ, zero, suc, ◌+◌, ◌*◌, ◌<◌}
use native.Mathlib.Nat.{mul-lt-mul_of_pos_right, lt_of_mul-lt-mul_right, mul-pos, zero-mul, zero-lt-suc}
use native.Mathlib.Omega.{arith}
use borrow.Author.Tests.{ltb-true, lt-ltb, le-ltb}
use lib.Ieee.{Float, nan, inf, fin, up, down, below, lt}
use lib.Ieee.Fits.{down_pos}
use Rattle.pass_claims.proofs.Edges.{impossible}

-- x / p < y / q < z / r
cross : (x y z p q r : ℕ) → 0 < p → 0 < r → x * q < y * p → y * r < z * q → x * r < z * p
cross x y z p q r hp hr a b =
    let a' : x * q * r < y * p * r = mul-lt-mul_of_pos_right a hr in
    let b' : y * r * p < z * q * p = mul-lt-mul_of_pos_right b hp in
    let c : x * r * q < z * p * q = omega (arith, a', b') in
    lt_of_mul-lt-mul_right q c

some : (x q : ℕ) → 0 < x * q → 0 < x
some zero q h = let e = zero-mul q in absurd (omega (arith, h, e))
some (suc x) q h = zero-lt-suc x

below_trans : (s t v : Bool) (x y z p q r : ℕ) → 0 < p → 0 < q → 0 < r → below s (x * q) t (y * p) ≡ true → below t (y * r) v (z * q) ≡ true → below s (x * r) v (z * p) ≡ true
below_trans false false false x y z p q r hp hq hr a b = lt-ltb (x * r) (z * p) (cross x y z p q r hp hr (ltb-true (x * q) (y * p) a) (ltb-true (y * r) (z * q) b))
below_trans false false true x y z p q r hp hq hr a b = b
below_trans false true v x y z p q r hp hq hr a b = impossible (false≢true a)
below_trans true false false x y z p q r hp hq hr a b =
    let l = ltb-true (y * r) (z * q) b in
    let w : 0 < z * q = omega (arith, l) in
    let g = mul-pos (some z q w) hp in
    lt-ltb 0 (x * r + z * p) (omega (arith, g))
below_trans true false true x y z p q r hp hq hr a b = impossible (false≢true b)
below_trans true true false x y z p q r hp hq hr a b =
    let l = ltb-true (y * p) (x * q) a in
    let w : 0 < x * q = omega (arith, l) in
    let g = mul-pos (some x q w) hr in
    lt-ltb 0 (x * r + z * p) (omega (arith, g))
below_trans true true true x y z p q r hp hq hr a b = lt-ltb (z * p) (x * r) (cross z y x r q p hr hp (ltb-true (z * q) (y * r) b) (ltb-true (y * p) (x * q) a))

inf_down : (s t : Bool) → (s && not t) ≡ true → t ≡ false
inf_down true true h = impossible (false≢true h)
inf_down true false h = refl
inf_down false t h = impossible (false≢true h)

none_above_inf : (t : Bool) (z : Float) → t ≡ false → lt (inf t) z ≡ true → ⊥
unfolding lt
none_above_inf false nan e h = false≢true h
none_above_inf false (inf v) e h = false≢true h
none_above_inf false (fin v l g) e h = false≢true h
none_above_inf true z e h = false≢true (sym e)

not_true : (t : Bool) → not t ≡ true → t ≡ false
not_true true h = impossible (false≢true h)
not_true false h = refl

and_both : (s t : Bool) → s ≡ true → t ≡ true → (s && t) ≡ true
and_both true true a b = refl
and_both true false a b = b
and_both false t a b = a

pub lt_trans : (x y z : Float) → lt x y ≡ true → lt y z ≡ true → lt x z ≡ true
unfolding lt
lt_trans nan y z a b = impossible (false≢true a)
lt_trans (inf s) nan z a b = impossible (false≢true a)
lt_trans (inf s) (inf t) z a b = impossible (none_above_inf t z (inf_down s t a) b)
lt_trans (inf s) (fin t n d) nan a b = impossible (false≢true b)
lt_trans (inf s) (fin t n d) (inf v) a b = and_both s (not v) a b
lt_trans (inf s) (fin t n d) (fin v l g) a b = a
lt_trans (fin s m e) nan z a b = impossible (false≢true a)
lt_trans (fin s m e) (inf t) z a b = impossible (none_above_inf t z (not_true t a) b)
lt_trans (fin s m e) (fin t n d) nan a b = impossible (false≢true b)
lt_trans (fin s m e) (fin t n d) (inf v) a b = b
lt_trans (fin s m e) (fin t n d) (fin v l g) a b =
    below_trans s t v (m * up e) (n * up d) (l * up g) (down e) (down d) (down g) (down_pos e) (down_pos d) (down_pos g) a b

below_self : (s : Bool) (a : ℕ) → below s a s a ≡ false
below_self true a = le-ltb a a (omega arith)
below_self false a = le-ltb a a (omega arith)

inf_self : (s : Bool) → (s && not s) ≡ false
inf_self true = refl
inf_self false = refl

pub lt_self : (x : Float) → lt x x ≡ false
unfolding lt
lt_self nan = refl
lt_self (inf s) = inf_self s
lt_self (fin s m e) = below_self s (m * up e * down e)

by_test : (a y w : Float) (q : Bool) → lt y w ≡ q → lt a y ≡ true → lt a w ≡ false → q ≡ false
by_test a y w true e h g = impossible (false≢true (sym g ∙ lt_trans a y w h e))
by_test a y w false e h g = refl

-- what is not above a is not above a number above a
pub still_not : (a y w : Float) → lt a y ≡ true → lt a w ≡ false → lt y w ≡ false
still_not a y w h g = by_test a y w (lt y w) refl h g
