-- Laws of the calendar. Assumes nothing.
use mathlib.Core.Path.{◌≡◌, refl, sym, ap, ◌∙◌, subst}
use mathlib.Core.Bool.{Bool, true, false, cond, ◌&&◌, false≢true}
use Prim.Native.Nat.{ℕ, zero, suc, ◌+◌, ◌*◌, ◌/◌, ◌%◌, ◌≤◌, ◌<◌}
use native.Mathlib.Omega.{arith}
use lib.Dec.{leb, ltb, eqb}
use borrow.Author.Tests.{ltb-true, leb-true, eqb-true, eqb-false, lt-ltb, le-ltb, le-leb, eq-eqb, ne_eqb}
use Rattle.instant.specs.Calendar.{days_in, days_before, calendar_end, in_calendar, last_day, day_in_range, year_in_range, years_since}

-- The calendar ends at 3,155,760,000,000,000.
pub calendar_end_lem : calendar_end ≡ 3155760000000000
unfolding calendar_end days_before days_in
calendar_end_lem = refl

-- ---- the days before a year, without counting them one by one
length_of : (k : ℕ) (b : Bool) → eqb ((1957 + k) % 4) 0 ≡ b → 365 * k + k / 4 + cond b 366 365 ≡ 365 * suc k + suc k / 4
length_of k true h = let e = eqb-true ((1957 + k) % 4) 0 h in omega arith
length_of k false h = let e = eqb-false ((1957 + k) % 4) 0 h in omega arith

pub days_before_lem : (k : ℕ) → days_before k ≡ 365 * k + k / 4
unfolding days_before days_in
days_before_lem zero = refl
days_before_lem (suc k) = ap (λ (z : ℕ). z + days_in (1957 + k)) (days_before_lem k) ∙ length_of k (eqb ((1957 + k) % 4) 0) refl

-- ---- the year of a day: the days before it are no more, and those before the next year are more
pub year_begun : (d : ℕ) → days_before (years_since d) ≤ d
unfolding years_since
year_begun d = subst (λ (z : ℕ). z ≤ d) (sym (days_before_lem ((4 * d + 3) / 1461))) (omega arith)

pub year_not_over : (d : ℕ) → d < days_before (suc (years_since d))
unfolding years_since
year_not_over d = subst (λ (z : ℕ). d < z) (sym (days_before_lem (suc ((4 * d + 3) / 1461)))) (omega arith)

-- ---- what the code's test of an instant says
pub inside : (t : ℕ) → t < 3155760000000000 → in_calendar t ≡ true
unfolding in_calendar
inside t h = subst (λ (z : ℕ). ltb t z ≡ true) (sym calendar_end_lem) (lt-ltb t 3155760000000000 h)

pub outside : (t : ℕ) → 3155760000000000 ≤ t → in_calendar t ≡ false
unfolding in_calendar
outside t h = subst (λ (z : ℕ). ltb t z ≡ false) (sym calendar_end_lem) (le-ltb t 3155760000000000 h)

pub below : (t : ℕ) → in_calendar t ≡ true → t < 3155760000000000
unfolding in_calendar
below t h = subst (λ (z : ℕ). t < z) calendar_end_lem (ltb-true t calendar_end h)

-- two tests that both pass
pub both : {P Q : Type 0} (a b : Bool) → (a ≡ true → P) → (b ≡ true → Q) → (a && b) ≡ true → P × Q
both true true p q h = (p refl, q refl)
both true false p q h = absurd (false≢true h)
both false true p q h = absurd (false≢true h)
both false false p q h = absurd (false≢true h)

-- a year's last day is that of the calendar, and none comes after day 366
pub last_day_counts : (year : ℕ) → last_day year ≡ days_in year
unfolding last_day
last_day_counts year = refl

-- the test that the code makes
pub last_day_leap : (year : ℕ) → year % 4 ≡ 0 → last_day year ≡ 366
unfolding last_day days_in
last_day_leap year h = simp (eq-eqb (year % 4) 0 h)

pub last_day_common : (year : ℕ) → (year % 4 ≡ 0 → ⊥) → last_day year ≡ 365
unfolding last_day days_in
last_day_common year h = simp (ne_eqb (year % 4) 0 h)

pub last_day_most : (year : ℕ) → last_day year ≤ 366
unfolding last_day days_in
last_day_most year = by (eqb (year % 4) 0)
  where
    by : (b : Bool) → cond b 366 365 ≤ 366
    by true = omega arith
    by false = omega arith

-- a day that an epoch may have is from day 1 up to the end of the year's last day
pub day_ends : (year day : ℕ) → day_in_range year day ≡ true → (100000000 ≤ day) × (day < (last_day year + 1) * 100000000)
unfolding day_in_range
day_ends year day h =
    let end = (last_day year + 1) * 100000000 in
    both (leb 100000000 day) (ltb day end) (leb-true 100000000 day) (ltb-true day end) h

pub day_within : (year day : ℕ) → 100000000 ≤ day → day < (last_day year + 1) * 100000000 → day_in_range year day ≡ true
unfolding day_in_range
day_within year day l h = simp (le-leb 100000000 day l, lt-ltb day ((last_day year + 1) * 100000000) h)

pub day_bounds : (year day : ℕ) → day_in_range year day ≡ true → (100000000 ≤ day) × (day < 36700000000)
day_bounds year day h = let b = day_ends year day h in (b.0, omega (arith, last_day_most year, b.1))

pub year_bounds : (year : ℕ) → year_in_range year ≡ true → (1957 ≤ year) × (year ≤ 2056)
unfolding year_in_range
year_bounds year h = both (leb 1957 year) (leb year 2056) (leb-true 1957 year) (leb-true year 2056) h

pub year_within : (year : ℕ) → 1957 ≤ year → year ≤ 2056 → year_in_range year ≡ true
unfolding year_in_range
year_within year l h = simp (le-leb 1957 year l, le-leb year 2056 h)
