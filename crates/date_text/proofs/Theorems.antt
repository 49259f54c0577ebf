-- The claims of specs/Claims.
use mathlib.Core.Path.{◌≡◌, refl, sym, ap, ◌∙◌, subst}
use Prim.Native.Nat.{ℕ, zero, suc, ◌+◌, ◌-◌, ◌*◌, ◌/◌, ◌%◌, ◌≤◌, ◌<◌}
use native.Mathlib.Numerals.{add-one}
use native.Mathlib.Omega.{arith}
use mathlib.Core.Bool.{Bool, true, false, cond}
use lib.Dec.{eqb, leb}
use lib.ListN.{length, length-append}
use borrow.Author.Tests.{leb-true, leb-false, ltb-true}
use Rattle.instant.specs.Calendar.{days_in, calendar_end, in_calendar, together, date_of}
use Rattle.std.specs.Prelude.{None, Option, Some}
use Rattle.instant.specs.declared.Date.{Date}
use Rattle.instant.proofs.Theorems.{Apart, apart_together}
use Rattle.decimals.proofs.Spelled.{length_places}
use Rattle.date_text.specs.declared.MonthDay.{MonthDay}
use Rattle.date_text.specs.Date.{month_length, month_from, month_of, day_text, time_text, date_text, instant_text}
use Rattle.date_text.specs.Claims.{days_of_months, WholeYear, Civil, RightDate, Bytes26}

year_least : (year : ℕ) → 337 ≤ days_in year
unfolding days_in
year_least year = by (eqb (year % 4) 0)
  where
    by : (b : Bool) → 337 ≤ cond b 366 365
    by true = omega arith
    by false = omega arith

pub whole_year : WholeYear
unfolding days_of_months month_length
whole_year year = omega (arith, year_least year)

-- ---- the month of a day
record Right (year day : ℕ) (r : MonthDay) : Type 0 where
  from : 1 ≤ r.month
  to : r.month ≤ 12
  first : 1 ≤ r.day
  last : r.day ≤ month_length year r.month
  sum : days_of_months year (r.month - 1) + r.day ≡ day

last_month : (year : ℕ) → days_of_months year 11 + month_length year 12 ≡ days_in year
unfolding days_of_months month_length
last_month year = whole_year year

next_month : (year j : ℕ) → days_of_months year (suc j) ≡ days_of_months year j + month_length year (suc j)
unfolding days_of_months
next_month year j = refl

here : (j year day : ℕ) → j ≤ 11 → 1 ≤ day → day ≤ month_length year (suc j) → Right year (days_of_months year j + day) (record { month = suc j; day = day })
here j year day i p h =
    let s : suc j - 1 ≡ j = omega arith in
    record { from = omega arith; to = omega arith; first = p; last = h; sum = ap (λ (z : ℕ). days_of_months year z + day) s }

month_right : (k j year day : ℕ) → suc j + k ≡ 12 → 1 ≤ day → days_of_months year j + day ≤ days_in year → Right year (days_of_months year j + day) (month_from k year (suc j) day)
unfolding month_from
month_right zero j year day e p h =
    let i : j ≡ 11 = omega arith in
    let w = last_month year in
    let d : days_of_months year j ≡ days_of_months year 11 = ap (days_of_months year) i in
    let l : month_length year (suc j) ≡ month_length year 12 = ap (λ (z : ℕ). month_length year (suc z)) i in
    here j year day (omega arith) p (omega arith)
month_right (suc k) j year day e p h =
    go (leb day (month_length year (suc j))) (leb-true day (month_length year (suc j))) (leb-false day (month_length year (suc j)))
    (λ (n : month_length year (suc j) < day). later n (month_right k (suc j) year (day - month_length year (suc j)) (omega arith) (omega arith) (let m = next_month year j in omega arith)))
  where
    later : month_length year (suc j) < day
        → Right year (days_of_months year (suc j) + (day - month_length year (suc j))) (month_from k year (suc (suc j)) (day - month_length year (suc j)))
        → Right year (days_of_months year j + day) (month_from k year (suc j + 1) (day - month_length year (suc j)))
    later n r =
        let m = next_month year j in
        let d : days_of_months year (suc j) + (day - month_length year (suc j)) ≡ days_of_months year j + day = omega arith in
        subst (λ (z : ℕ). Right year (days_of_months year j + day) (month_from k year z (day - month_length year (suc j)))) (sym (add-one (suc j)))
        (subst (λ (z : ℕ). Right year z (month_from k year (suc (suc j)) (day - month_length year (suc j)))) d r)

    go : (b : Bool) → (b ≡ true → day ≤ month_length year (suc j)) → (b ≡ false → month_length year (suc j) < day)
        → (month_length year (suc j) < day → Right year (days_of_months year j + day) (month_from k year (suc j + 1) (day - month_length year (suc j))))
        → Right year (days_of_months year j + day) (cond b (record { month = suc j; day = day }) (month_from k year (suc j + 1) (day - month_length year (suc j))))
    go true y n f = here j year day (omega arith) p (y refl)
    go false y n f = f (n refl)

no_months : (year : ℕ) → days_of_months year 0 ≡ 0
unfolding days_of_months
no_months year = refl

date_right : (year day : ℕ) → 1 ≤ day → day ≤ days_in year → Right year day (month_of year day)
unfolding month_of
date_right year day p h =
    let z = no_months year in
    let e : days_of_months year 0 + day ≡ day = omega arith in
    subst (λ (d : ℕ). Right year d (month_from 11 year 1 day)) e (month_right 11 0 year day refl p (omega arith))

-- ---- the time of day
clock : (u : ℕ) → (u / 3600000000 * 3600 + u / 60000000 % 60 * 60 + u / 1000000 % 60) * 1000000 + u % 1000000 ≡ u
clock u = omega arith

civil_of : (t : ℕ) (d : Option Date) → date_of t ≡ d → Apart t d → Civil t
unfolding instant_text date_text day_text time_text together
civil_of t None e p = absurd p
civil_of t (Some d) e p =
    let r = date_right d.year d.day p.day_from p.day_to in
    let u = d.micros in
    let c = clock u in
    record {
      year = d.year;
      month = (month_of d.year d.day).month;
      day = (month_of d.year d.day).day;
      hour = u / 3600000000;
      minute = u / 60000000 % 60;
      second = u / 1000000 % 60;
      micro = u % 1000000;
      years = (p.first, p.last);
      months = (r.from, r.to);
      days = (r.first, r.last);
      hours = omega (arith, p.time);
      minutes = omega arith;
      seconds = omega arith;
      micros = omega arith;
      together = omega (arith, p.whole, r.sum, r.first, p.day_from);
      text = ap date_text e;
    }

pub right_date : RightDate
unfolding in_calendar
right_date t h = civil_of t (date_of t) refl (apart_together t (ltb-true t calendar_end h))

pub bytes_26 : Bytes26
bytes_26 t h = ap length (right_date t h).text ∙ simp (length-append, length_places)
