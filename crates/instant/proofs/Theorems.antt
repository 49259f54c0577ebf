-- The theorems of the calendar, over its definitions. Assumes nothing.
use mathlib.Core.Path.{◌≡◌, refl, sym, ap, ◌∙◌, subst}
use mathlib.Core.Bool.{Bool, true, false, cond}
use Prim.Native.Nat.{ℕ, suc, ◌+◌, ◌-◌, ◌*◌, ◌/◌, ◌%◌, ◌≤◌, ◌<◌}
use native.Mathlib.Omega.{arith}
use borrow.Author.Tests.{ltb-true}
use lib.IntN.{ℤ, pos, ◌+ℤ◌, +ℤ_invr}
use Rattle.instant.specs.Calendar.{day_micros, unit_micros, days_in, days_before, calendar_end, in_calendar, year_in_range, day_in_range, together, epoch_micros, epoch_of, years_since, date_of}
use Rattle.instant.specs.Move.{move_of}
use Rattle.instant.specs.Since.{since_of}
use Rattle.instant.specs.Claims.{EpochsApart, EpochsDiffer, DatesAreEpochs, SinceThenMove, MoveThenSince, SinceItself}
use Rattle.instant.specs.declared.Date.{Date}
use Rattle.std.specs.Prelude.{None, Option, Some}
use Rattle.instant.proofs.Calendar.{calendar_end_lem, days_before_lem, last_day_counts, year_bounds, day_ends, day_within, year_within, day_bounds, year_begun, year_not_over, inside}
use Rattle.instant.proofs.Move.{move_made}
use Rattle.instant.proofs.Difference.{reached_sum, sum_since, since_sum, since_given}

-- The calendar ends at 3,155,760,000,000,000.
pub end_of_calendar : calendar_end ≡ 3155760000000000
end_of_calendar = calendar_end_lem

-- Day fraction 78495062 is 67,819,733,568 microseconds.
pub day_fraction : 78495062 * unit_micros ≡ 67819733568
day_fraction = refl

-- ---- an instant taken apart and put together is that instant

-- what its parts are: a year of the calendar, a day that the year has, a time of that day, and together they are the instant
pub record Parts (t year day micros : ℕ) : Type 0 where
  pub first : 1957 ≤ year
  pub last : year ≤ 2056
  pub day_from : 1 ≤ day
  pub day_to : day ≤ days_in year
  pub time : micros < day_micros
  pub whole : together year day micros ≡ t

-- `date_of` gives them for every instant of the calendar
abbrev pub Apart : ℕ → Option Date → Type 0
Apart t (Some d) = Parts t d.year d.day d.micros
Apart t None = ⊥

parts : (t : ℕ) → t < 3155760000000000 → let days = t / day_micros in let k = years_since days in Parts t (1957 + k) (days - days_before k + 1) (t % day_micros)
unfolding together years_since days_before
parts t h =
    let days = t / day_micros in
    let k = years_since days in
    let begun : days_before k ≤ days = year_begun days in
    let running : days < days_before k + days_in (1957 + k) = year_not_over days in
    let year : 1957 + k - 1957 ≡ k = omega arith in
    let sum : (days_before k + (days - days_before k + 1 - 1)) * day_micros + t % day_micros ≡ t = omega arith in
    record {
      first = omega arith;
      last = omega arith;
      day_from = omega arith;
      day_to = omega arith;
      time = omega arith;
      whole = ap (λ (z : ℕ). (days_before z + (days - days_before k + 1 - 1)) * day_micros + t % day_micros) year ∙ sum;
    }

pub apart_together : (t : ℕ) → t < calendar_end → Apart t (date_of t)
unfolding date_of
apart_together t h =
    let g : t < 3155760000000000 = subst (λ (z : ℕ). t < z) calendar_end_lem h in
    let days = t / day_micros in
    let k = years_since days in
    subst (λ (b : Bool). Apart t (cond b (Some (record { year = 1957 + k; day = days - days_before k + 1; micros = t % day_micros })) None)) (sym (inside t g)) (parts t g)

-- ---- every readable epoch lies in the calendar: 2056 has 366 days
pub epoch_inside : (year day : ℕ) → year_in_range year ≡ true → day_in_range year day ≡ true → (epoch_of year day ≡ Some (record { 0 = epoch_micros year day })) × (epoch_micros year day < calendar_end)
unfolding epoch_of epoch_micros
epoch_inside year day y h =
    let b = year_bounds year y in
    let d = day_bounds year day h in
    let e : days_before (year - 1957) ≡ 365 * (year - 1957) + (year - 1957) / 4 = days_before_lem (year - 1957) in
    (simp (y, h), subst (λ (z : ℕ). epoch_micros year day < z) (sym calendar_end_lem) (omega arith))

-- ---- only one date is that instant
-- the year of a day is the one that has begun and is not over
pub one_year : (d k : ℕ) → days_before k ≤ d → d < days_before (suc k) → k ≡ years_since d
one_year d k lo hi =
    let j = years_since d in
    let x = days_before_lem k in
    let y = days_before_lem (suc k) in
    let p = days_before_lem j in
    let q = days_before_lem (suc j) in
    let b = year_begun d in
    let e = year_not_over d in
    omega arith

-- so a date put together and taken apart is that date
pub together_apart : (t year day micros : ℕ) → Parts t year day micros → date_of t ≡ Some (record { year = year; day = day; micros = micros })
unfolding date_of together days_before
together_apart t year day micros p =
    let k = year - 1957 in
    let days = t / day_micros in
    let w : (days_before k + (day - 1)) * day_micros + micros ≡ t = p.whole in
    let a = p.first in
    let b = p.last in
    let c = p.day_from in
    let l = p.time in
    let d : days ≡ days_before k + (day - 1) = omega arith in
    let r : t % day_micros ≡ micros = omega arith in
    let y : 1957 + k ≡ year = omega arith in
    let m : day ≤ days_in (1957 + k) = subst (λ (z : ℕ). day ≤ days_in z) (sym y) p.day_to in
    let n : k ≡ years_since days = one_year days k (omega arith) (omega arith) in
    let g : t < 3155760000000000 = (let x = days_before_lem (suc k) in omega arith) in
    let e : days - days_before k + 1 ≡ day = omega arith in
    simp (inside t g, sym n, r, y, e)

-- ---- each epoch has one date and one instant

pub epochs_apart : EpochsApart
unfolding epoch_micros together
epochs_apart year day y h =
    let b = year_bounds year y in
    let d = day_ends year day h in
    let l = last_day_counts year in
    let w : together year (day / 100000000) (day % 100000000 * unit_micros) ≡ epoch_micros year day = omega arith in
    together_apart (epoch_micros year day) year (day / 100000000) (day % 100000000 * unit_micros) (record {
      first = b.0;
      last = b.1;
      day_from = omega (arith, d.0);
      day_to = omega (arith, d.1, l);
      time = omega arith;
      whole = w;
    })

abbrev year_of : Option Date → ℕ
year_of (Some d) = d.year
year_of None = 0

abbrev day_of : Option Date → ℕ
day_of (Some d) = d.day
day_of None = 0

abbrev time_of : Option Date → ℕ
time_of (Some d) = d.micros
time_of None = 0

pub epochs_differ : EpochsDiffer
epochs_differ year day year' day' y h y' h' e =
    let s = sym (epochs_apart year day y h) ∙ ap date_of e ∙ epochs_apart year' day' y' h' in
    let d : day / 100000000 ≡ day' / 100000000 = ap day_of s in
    let m : day % 100000000 * unit_micros ≡ day' % 100000000 * unit_micros = ap time_of s in
    (ap year_of s, omega arith)

-- an instant that has a date is one of the calendar
dated_inside : (t : ℕ) (b : Bool) (x d : Date) → in_calendar t ≡ b → cond b (Some x) None ≡ Some d → t < calendar_end
unfolding in_calendar
dated_inside t true x d h e = ltb-true t calendar_end h
dated_inside t false x d h e = let z : ◌≡◌ {A = ℕ} 0 1 = ap (λ (a : Option Date). given a) e in absurd (omega arith)
  where
    given : Option Date → ℕ
    given (Some y) = 1
    given None = 0

-- so its parts are those of the date
dated_parts : (t : ℕ) (d : Date) → date_of t ≡ Some d → Parts t d.year d.day d.micros
unfolding date_of
dated_parts t d e = subst (Apart t) e (apart_together t (dated_inside t (in_calendar t) _ d refl e))

pub dates_are_epochs : DatesAreEpochs
unfolding epoch_micros together
dates_are_epochs t year day units e =
    let p = dated_parts t (record { year = year; day = day; micros = units * unit_micros }) e in
    let d = day * 100000000 + units in
    let w : (days_before (year - 1957) + (day - 1)) * day_micros + units * unit_micros ≡ t = p.whole in
    let s : epoch_micros year d ≡ t = omega (arith, p.day_from, w) in
    let y = year_within year p.first p.last in
    let h = day_within year d (omega (arith, p.day_from)) (omega (arith, p.day_to, p.time, last_day_counts year)) in
    (epoch_inside year d y h).0 ∙ ap (λ (z : ℕ). Some (record { 0 = z })) s

-- ---- time since an epoch, and moves
pub since_then_move : SinceThenMove
unfolding move_of
since_then_move t epoch z h l =
    let g = since_given t epoch z h in
    let s : pos epoch +ℤ z ≡ pos t = ap (λ (y : ℤ). pos epoch +ℤ y) (sym g.2) ∙ sum_since t epoch in
    simp (l, g.1, reached_sum epoch z t s g.0)

pub move_then_since : MoveThenSince
unfolding since_of
move_then_since t epoch z h =
    let m = move_made epoch z t h in
    simp (m.0, m.1, since_sum t epoch z m.2)

pub since_itself : SinceItself
unfolding since_of
since_itself t h = simp (h, +ℤ_invr)
