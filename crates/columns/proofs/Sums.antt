-- One turn of each sum, and its end; a digit is at most 9.
use mathlib.Core.Path.{◌≡◌, refl}
use mathlib.Core.List.{List}
use mathlib.Core.Bool.{Bool, cond, true, false, ◌&&◌}
use Prim.Native.Nat.{ℕ, ◌<◌, ◌≤◌, ◌+◌, ◌-◌}
use native.Mathlib.Numerals.{add-one}
use native.Mathlib.Omega.{arith}
use lib.ListN.{length, drop, get_or, drop_of_length-le}
use lib.Seq.{drop-cons}
use lib.Dec.{eqb, leb}
use borrow.Author.Tests.{leb-true}
use Rattle.columns.specs.Sum.{digit_of, sum}

module _ (s : List ℕ) (i : ℕ) where
  pub sum_more : i < length s → sum (drop i s) ≡ cond (eqb (get_or s i 0) 45) 1 (digit_of (get_or s i 0)) + sum (drop (i + 1) s)
  unfolding sum
  sum_more h = rw (add-one, drop-cons s i 0)

  pub sum_done : length s ≤ i → sum (drop i s) ≡ 0
  unfolding sum
  sum_done h = rw (drop_of_length-le s h)

digit_by : (b : ℕ) (low high : Bool) → leb 48 b ≡ low → leb b 57 ≡ high → cond (low && high) (b - 48) 0 ≤ 9
digit_by b true true l h = omega (arith, leb-true b 57 h)
digit_by b true false l h = omega arith
digit_by b false high l h = omega arith

pub digit_below : (b : ℕ) → digit_of b ≤ 9
unfolding digit_of
digit_below b = digit_by b (leb 48 b) (leb b 57) refl refl
