-- 002's guard holds for every legal record: the eccentricity is below 1, so that 1 - e² is not below 0.
use Prim.Native.Nat.{ℕ, zero, suc, ◌<◌}
use native.Mathlib.Omega.{arith}
use mathlib.Core.Path.{◌≡◌, refl, ap, subst}
use mathlib.Core.Bool.{Bool, true, ◌||◌}
use lib.Dec.{T, ltb}
use lib.Ieee.{Float, binary64, le, lt, eq, mul, sub, add, sum, neg, round, units, odd, size, span, climb}
use lib.Count.{count_trailing_zeros}
use lib.Ieee.Bits.{is_true}
use lib.Ieee.Order.{round_mono}
use lib.Ieee.Positive.{positive, between, mul_mono, sub_anti}
use borrow.Author.Tests.{ltb-true}
use Rattle.elementary.specs.Notation.{◌⊗◌, ◌⊖◌, dec}
use Rattle.instant.specs.Quantity.{decimal_of}
use Rattle.near_earth.specs.Initl.{initl, guard}

-- the least eccentricity above 0, and 1, as fields of seven places
abbrev lo : Float
lo = dec 1 7

abbrev hi : Float
hi = dec 10000000 7

lo_positive : T (positive lo)
unfolding round units odd size span climb count_trailing_zeros
lo_positive = tt

hi_positive : T (positive hi)
unfolding round units odd size span climb count_trailing_zeros
hi_positive = tt

one_positive : T (positive (dec 1 0))
unfolding round units odd size span climb count_trailing_zeros
one_positive = tt

lo_square : T (positive (lo ⊗ lo))
unfolding round units odd size span climb count_trailing_zeros mul
lo_square = tt

hi_square : T (positive (hi ⊗ hi))
unfolding round units odd size span climb count_trailing_zeros mul
hi_square = tt

square_one : T (le (hi ⊗ hi) (dec 1 0))
unfolding round units odd size span climb count_trailing_zeros mul le lt eq
square_one = tt

left_over : dec 1 0 ⊖ hi ⊗ hi ≡ dec 0 0
unfolding round units odd size span climb count_trailing_zeros mul sub add sum neg
left_over = refl

of_zero : T (le (dec 0 0) (dec 1 0 ⊖ dec 0 7 ⊗ dec 0 7))
unfolding round units odd size span climb count_trailing_zeros mul sub add sum neg le lt eq
of_zero = tt

not_below : (n : ℕ) → n < 10000000 → T (le (dec 0 0) (dec 1 0 ⊖ dec n 7 ⊗ dec n 7))
not_below zero h = of_zero
not_below (suc k) h =
    let up : T (le (dec (suc k) 7) hi) = round_mono binary64 (suc k) 10000000 10000000 10000000 (omega arith) (omega arith) (omega arith) in
    let down : T (le lo (dec (suc k) 7)) = round_mono binary64 1 10000000 (suc k) 10000000 (omega arith) (omega arith) (omega arith) in
    let e : T (positive (dec (suc k) 7)) = between lo (dec (suc k) 7) hi lo_positive hi_positive down up in
    let most : T (le (dec (suc k) 7 ⊗ dec (suc k) 7) (hi ⊗ hi)) = mul_mono binary64 (dec (suc k) 7) hi (dec (suc k) 7) hi e hi_positive e hi_positive up up in
    let least : T (le (lo ⊗ lo) (dec (suc k) 7 ⊗ dec (suc k) 7)) = mul_mono binary64 lo (dec (suc k) 7) lo (dec (suc k) 7) lo_positive e lo_positive e down down in
    let q : T (positive (dec (suc k) 7 ⊗ dec (suc k) 7)) = between (lo ⊗ lo) (dec (suc k) 7 ⊗ dec (suc k) 7) (hi ⊗ hi) lo_square hi_square least most in
    subst (λ (z : Float). T (le z (dec 1 0 ⊖ dec (suc k) 7 ⊗ dec (suc k) 7))) left_over
    (sub_anti binary64 (dec 1 0) (dec (suc k) 7 ⊗ dec (suc k) 7) (hi ⊗ hi) one_positive q hi_square most square_one)

or_left : (a b : Bool) → a ≡ true → a || b ≡ true
or_left a b p = ap (λ (x : Bool). x || b) p

pub guarded : (n : ℕ) (inclo xno : Float) → ltb n 10000000 ≡ true → guard (initl (decimal_of n 7) inclo xno) ≡ true
unfolding guard initl decimal_of
guarded n inclo xno h =
    let e = dec n 7 in
    or_left (le (dec 0 0) (dec 1 0 ⊖ e ⊗ e)) (le (dec 0 0) (initl e inclo xno).no)
    (is_true (le (dec 0 0) (dec 1 0 ⊖ e ⊗ e)) (not_below n (ltb-true n 10000000 h)))
