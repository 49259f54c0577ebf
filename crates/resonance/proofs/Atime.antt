-- 002's atime, which changes by 720.0 with each stride, is the stride number times 720.0: no sum of these rounds. Assumes nothing.
use mathlib.Core.Path.{◌≡◌, refl, sym, ap, ◌∙◌, subst}
use mathlib.Core.Bool.{Bool, true, false, cond, not, ◌&&◌, beq}
use Prim.Native.Nat.{ℕ, zero, suc, ◌+◌, ◌-◌, ◌*◌, ◌≤◌, ◌<◌, ◌^◌}
use native.Mathlib.Nat.{mul-one, mul_comm, mul_assoc, mul_left_comm, mul-pos, zero-mul, add-mul}
use native.Mathlib.Omega.{arith}
use lib.IntN.{ℤ, pos}
use lib.Dec.{ltb}
use lib.Ieee.{Float, nan, inf, fin, Format, binary64, up, down, unlike, neg, round, add, sub, mul, sum, of_int}
use lib.Ieee.Fits.{down_pos}
use lib.Ieee.Exact.{HasValue}
use lib.Ieee.Scale.{round_same}
use lib.Ieee.Back.{round_whole}
use borrow.Author.Tests.{lt-ltb}
use Rattle.elementary.specs.Notation.{◌⊕◌, ◌⊖◌, ◌⊗◌, dec}
use Rattle.resonance.specs.declared.place.Side.{Side}
use Rattle.resonance.specs.declared.place.Side.TheVariants.{Forward, Back}
use Rattle.resonance.specs.Place.{delt_of, atime_after}

one : (a b : ℕ) → a * 1 ≡ b → a ≡ b
one a b h = sym (mul-one a) ∙ h

-- a product of whole numbers is their product, rounded
mul_value : (f : Format) (x y : Float) (a b : ℕ) → HasValue x false a 1 → HasValue y false b 1 → mul f x y ≡ round f false (a * b) 1
unfolding mul
mul_value f nan y a b v w = absurd v
mul_value f (inf t) y a b v w = absurd v
mul_value f (fin t m e) nan a b v w = absurd w
mul_value f (fin t m e) (inf u) a b v w = absurd w
mul_value f (fin t m e) (fin u n d) a b v w =
    let x : m * up e ≡ a * down e = one (m * up e) (a * down e) v.1 in
    let y : n * up d ≡ b * down d = one (n * up d) (b * down d) w.1 in
    let k : a * down e * (b * down d) * 1 ≡ a * b * (down e * down d) = simp (mul-one, mul_assoc, mul_comm, mul_left_comm) in
    ap (λ (z : Bool). round f (unlike z u) (m * up e * (n * up d)) (down e * down d)) v.0
    ∙ ap (λ (z : Bool). round f (unlike false z) (m * up e * (n * up d)) (down e * down d)) w.0
    ∙ round_same f false (m * up e * (n * up d)) (down e * down d) (a * b) 1 (mul-pos (down_pos e) (down_pos d)) (omega arith)
    (ap (λ (z : ℕ). z * (n * up d) * 1) x ∙ ap (λ (z : ℕ). a * down e * z * 1) y ∙ k)

-- the terms of a sum, over the common divisor
left : (m a : ℕ) (e d : ℤ) → m * up e * 1 ≡ a * down e → m * up e * down d ≡ a * (down e * down d)
left m a e d h = ap (λ (z : ℕ). z * down d) (one (m * up e) (a * down e) h) ∙ mul_assoc a (down e) (down d)

right : (n b : ℕ) (e d : ℤ) → n * up d * 1 ≡ b * down d → n * up d * down e ≡ b * (down e * down d)
right n b e d h = left n b d e h ∙ ap (λ (z : ℕ). b * z) (mul_comm (down d) (down e))

same_sign : (s : Bool) → beq s s ≡ true
same_sign true = refl
same_sign false = refl

-- a sum of whole numbers of one sign
add_value : (f : Format) (x y : Float) (s : Bool) (a b : ℕ) → HasValue x s a 1 → HasValue y s b 1 → add f x y ≡ round f s (a + b) 1
unfolding add sum
add_value f nan y s a b v w = absurd v
add_value f (inf t) y s a b v w = absurd v
add_value f (fin t m e) nan s a b v w = absurd w
add_value f (fin t m e) (inf u) s a b v w = absurd w
add_value f (fin t m e) (fin u n d) s a b v w =
    let A = m * up e * down d in
    let B = n * up d * down e in
    let c = down e * down d in
    ap (λ (z : Bool). sum f z A u B c) v.0
    ∙ ap (λ (z : Bool). sum f s A z B c) w.0
    ∙ ap (λ (z : Bool). cond z (round f s (A + B) c) (cond (ltb A B) (round f s (B - A) c) (round f (s && ltb B A) (A - B) c))) (same_sign s)
    ∙ round_same f s (A + B) c (a + b) 1 (mul-pos (down_pos e) (down_pos d)) (omega arith)
    (mul-one (A + B) ∙ ap (λ (z : ℕ). z + B) (left m a e d v.1) ∙ ap (λ (z : ℕ). a * c + z) (right n b e d w.1) ∙ sym (add-mul a b c))

-- nothing less a whole number
none_less : (f : Format) (x y : Float) (b : ℕ) → HasValue x false 0 1 → HasValue y true (suc b) 1 → add f x y ≡ round f true (suc b) 1
unfolding add sum
none_less f nan y b v w = absurd v
none_less f (inf t) y b v w = absurd v
none_less f (fin t m e) nan b v w = absurd w
none_less f (fin t m e) (inf u) b v w = absurd w
none_less f (fin t m e) (fin u n d) b v w =
    let B = n * up d * down e in
    let c = down e * down d in
    let z : m * up e * down d ≡ 0 = left m 0 e d v.1 ∙ zero-mul c in
    let k : B ≡ suc b * c = right n (suc b) e d w.1 in
    let p : 0 < B = subst (λ (z : ℕ). 0 < z) (sym k) (mul-pos (omega arith) (mul-pos (down_pos e) (down_pos d))) in
    ap (λ (q : Bool). sum f q (m * up e * down d) u B c) v.0
    ∙ ap (λ (q : Bool). sum f false (m * up e * down d) q B c) w.0
    ∙ ap (λ (q : ℕ). sum f false q true B c) z
    ∙ ap (λ (q : Bool). cond q (round f true (B - 0) c) (round f (false && ltb B 0) (0 - B) c)) (lt-ltb 0 B p)
    ∙ round_same f true (B - 0) c (suc b) 1 (mul-pos (down_pos e) (down_pos d)) (omega arith) (let q : B - 0 ≡ B = omega arith in mul-one (B - 0) ∙ q ∙ k)

none_none : (f : Format) (x y : Float) → HasValue x false 0 1 → HasValue y true 0 1 → add f x y ≡ round f false 0 1
unfolding add sum
none_none f nan y v w = absurd v
none_none f (inf t) y v w = absurd v
none_none f (fin t m e) nan v w = absurd w
none_none f (fin t m e) (inf u) v w = absurd w
none_none f (fin t m e) (fin u n d) v w =
    let c = down e * down d in
    let z : m * up e * down d ≡ 0 = left m 0 e d v.1 ∙ zero-mul c in
    let k : n * up d * down e ≡ 0 = right n 0 e d w.1 ∙ zero-mul c in
    ap (λ (q : Bool). sum f q (m * up e * down d) u (n * up d * down e) c) v.0
    ∙ ap (λ (q : Bool). sum f false (m * up e * down d) q (n * up d * down e) c) w.0
    ∙ ap (λ (q : ℕ). sum f false q true (n * up d * down e) c) z
    ∙ ap (λ (q : ℕ). sum f false 0 true q c) k
    ∙ round_same f false 0 c 0 1 (mul-pos (down_pos e) (down_pos d)) (omega arith) (mul-one 0 ∙ sym (zero-mul c))

neg_value : (x : Float) (a : ℕ) → HasValue x false a 1 → HasValue (neg x) true a 1
unfolding neg
neg_value nan a v = v
neg_value (inf t) a v = v
neg_value (fin t m e) a v = (ap not v.0, v.1)

-- k minutes on the side d
whole : Side → ℕ → Float
whole Forward k = round binary64 false k 1
whole Back zero = round binary64 false 0 1
whole Back (suc k) = round binary64 true (suc k) 1

value : (k : ℕ) → k ≤ 9007199254740992 → HasValue (round binary64 false k 1) false k 1
value k h = round_whole binary64 false k h

less : (k : ℕ) → k ≤ 9007199254740992 → HasValue (round binary64 true k 1) true k 1
less k h = round_whole binary64 true k h

behind : (k : ℕ) → 0 < k → whole Back k ≡ round binary64 true k 1
unfolding whole
behind zero h = absurd (omega arith)
behind (suc k) h = refl

-- one stride more
on : (d : Side) (n : ℕ) → suc n * 720 ≤ 9007199254740992 → whole d (n * 720) ⊕ delt_of d ≡ whole d (suc n * 720)
unfolding whole delt_of
on Forward n h =
    add_value binary64 _ _ false (n * 720) 720 (value (n * 720) (omega arith)) (value 720 (omega arith))
    ∙ (let e : n * 720 + 720 ≡ suc n * 720 = omega arith in ap (λ (k : ℕ). round binary64 false k 1) e)
on Back zero h = none_less binary64 _ _ 719 (value 0 (omega arith)) (neg_value _ 720 (value 720 (omega arith)))
on Back (suc n) h =
    let e : suc n * 720 + 720 ≡ suc (suc n) * 720 = omega arith in
    ap (λ (x : Float). x ⊕ delt_of Back) (behind (suc n * 720) (omega arith))
    ∙ add_value binary64 _ _ true (suc n * 720) 720 (less (suc n * 720) (omega arith)) (neg_value _ 720 (value 720 (omega arith)))
    ∙ ap (λ (k : ℕ). round binary64 true k 1) e
    ∙ sym (behind (suc (suc n) * 720) (omega arith))

after : (d : Side) (n : ℕ) → n * 720 ≤ 9007199254740992 → atime_after d n ≡ whole d (n * 720)
unfolding whole atime_after
after Forward zero h = refl
after Back zero h = refl
after d (suc n) h = ap (λ (x : Float). x ⊕ delt_of d) (after d n (omega arith)) ∙ on d n h

-- nothing less k minutes
from_none : (k : ℕ) → k ≤ 9007199254740992 → dec 0 0 ⊖ round binary64 false k 1 ≡ whole Back k
unfolding whole sub
from_none zero h =
    let y = round binary64 false 0 1 in
    none_none binary64 (dec 0 0) (neg y) (value 0 (omega arith)) (neg_value y 0 (value 0 h))
from_none (suc k) h =
    let y = round binary64 false (suc k) 1 in
    none_less binary64 (dec 0 0) (neg y) k (value 0 (omega arith)) (neg_value y (suc k) (value (suc k) h))

times : (n : ℕ) → n < 2 ^ 32 → of_int binary64 (pos n) ⊗ dec 720 0 ≡ round binary64 false (n * 720) 1
unfolding of_int
times n h = mul_value binary64 _ _ n 720 (value n (omega arith)) (value 720 (omega arith))

pub forward : (n : ℕ) → n < 2 ^ 32 → of_int binary64 (pos n) ⊗ dec 720 0 ≡ atime_after Forward n
unfolding whole
forward n h = times n h ∙ sym (after Forward n (omega arith))

pub backward : (n : ℕ) → n < 2 ^ 32 → dec 0 0 ⊖ of_int binary64 (pos n) ⊗ dec 720 0 ≡ atime_after Back n
backward n h = ap (λ (x : Float). dec 0 0 ⊖ x) (times n h) ∙ from_none (n * 720) (omega arith) ∙ sym (after Back n (omega arith))
