-- The turns of the loop of `month_of`. Assumes nothing.
use mathlib.Core.Path.{◌≡◌, refl}
use Prim.Native.Nat.{ℕ, zero, suc, ◌+◌, ◌-◌, ◌≤◌, ◌<◌}
use native.Mathlib.Omega.{arith}
use borrow.Author.Tests.{le-leb, lt-leb}
use Rattle.date_text.specs.Date.{month_length, month_from}

pub stop : (k year month day : ℕ) → 0 < k → day ≤ month_length year month → record { month = month; day = day } ≡ month_from k year month day
unfolding month_from
stop zero year month day p h = absurd (omega arith)
stop (suc k) year month day p h = simp (le-leb day (month_length year month) h)

pub turn : (k year month day : ℕ) → 0 < k → month_length year month < day → month_from (k - 1) year (month + 1) (day - month_length year month) ≡ month_from k year month day
unfolding month_from
turn zero year month day p h = absurd (omega arith)
turn (suc k) year month day p h = let e : suc k - 1 ≡ k = omega arith in rw (e, lt-leb day (month_length year month) h)

pub end : (k year month day : ℕ) → k ≤ 0 → record { month = month; day = day } ≡ month_from k year month day
unfolding month_from
end zero year month day h = refl
end (suc k) year month day h = absurd (omega arith)
