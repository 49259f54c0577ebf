-- The two sums as the library has them; the two together; no byte past a line's end.
use Prim.Native.Nat.{ℕ, zero, suc, ◌≤◌, ◌+◌}
use mathlib.Core.Path.{◌≡◌, refl}
use mathlib.Core.List.{List, [], ◌∷◌}
use mathlib.Core.Bool.{Bool, true, false, cond}
use native.Mathlib.Omega.{arith}
use lib.Dec.{eqb}
use lib.ListN.{length, get_or}
use Rattle.std.specs.List.{sum_by}
use Rattle.std.proofs.lemmas.Grind.{common_steps}
use borrow.Author.Tests.{eqb-true}
use Rattle.columns.specs.Sum.{digit_of, sum}
use Rattle.column_faults.specs.Sums.{digit_sum, minus, minuses}
use Rattle.column_faults.specs.Claims.{SumsAdd}

pub digits_sum : (s : List ℕ) → digit_sum s ≡ sum_by digit_of s
unfolding digit_sum
digits_sum [] = refl
digits_sum (b ∷ s) = grind (arith, common_steps, digits_sum s)

pub minuses_sum : (s : List ℕ) → minuses s ≡ sum_by minus s
unfolding minuses
minuses_sum [] = refl
minuses_sum (b ∷ s) = grind (arith, common_steps, minuses_sum s)

-- a minus sign is no digit
one_by : (b : ℕ) (t : Bool) → eqb b 45 ≡ t → digit_of b + cond t 1 0 ≡ cond t 1 (digit_of b)
unfolding digit_of
one_by b true e = rw (eqb-true b 45 e)
one_by b false e = omega arith

one_adds : (b : ℕ) → digit_of b + minus b ≡ cond (eqb b 45) 1 (digit_of b)
unfolding minus
one_adds b = one_by b (eqb b 45) refl

pub sums_add : SumsAdd
unfolding digit_sum minuses sum
sums_add [] = refl
sums_add (b ∷ bs) = omega (arith, one_adds b, sums_add bs)

-- past a line's end there is no byte
pub past_end : (s : List ℕ) (i : ℕ) → length s ≤ i → get_or s i 0 ≡ 0
past_end [] i h = refl
past_end (b ∷ s) zero h = absurd (omega arith)
past_end (b ∷ s) (suc i) h = past_end s i (omega arith)
