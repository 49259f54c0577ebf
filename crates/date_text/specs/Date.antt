-- An instant as text: `2026-11-17 12:00:00.000000`, its date with month and day of the month and its time of day. Definitions only.
use Rattle.std.specs.Prelude.{ℕ, zero, suc, ◌+◌, ◌-◌, ◌/◌, ◌%◌, cond, ◌||◌, List, [], ◌∷◌, ◌++◌, leb, eqb, None, Option, Some}
use Rattle.text.specs.Output.{bytes, places}
use Rattle.instant.specs.Calendar.{days_in, date_of}
use Rattle.instant.specs.declared.Date.{Date}
use Rattle.date_text.specs.declared.MonthDay.{MonthDay}

-- the days of a month, 1 to 12; the other eleven leave February 28 days of a year of 365
unfoldable pub month_length : ℕ → ℕ → ℕ
month_length year month =
    cond (eqb month 2) (days_in year - 337) (cond (eqb month 4 || eqb month 6 || eqb month 9 || eqb month 11) 30 31)

-- the month of a day counted from the first day of a month, which k months of the year come after
unfoldable pub month_from : ℕ → ℕ → ℕ → ℕ → MonthDay
month_from zero year month day = record { month = month; day = day }
month_from (suc k) year month day =
    let size = month_length year month in
    cond (leb day size) (record { month = month; day = day }) (month_from k year (month + 1) (day - size))

-- the month and the day of the month of a day of the year, both from 1
unfoldable pub month_of : ℕ → ℕ → MonthDay
month_of year day = month_from 11 year 1 day

unfoldable pub day_text : ℕ → MonthDay → List ℕ
day_text year m = places 10 4 year ++ ((45 ∷ []) ++ (places 10 2 m.month ++ ((45 ∷ []) ++ places 10 2 m.day)))

-- hours, minutes, seconds and microseconds, by the microseconds of the day
unfoldable pub time_text : ℕ → List ℕ
time_text micros =
    places 10 2 (micros / 3600000000)
    ++ ((58 ∷ []) ++ (places 10 2 (micros / 60000000 % 60)
    ++ ((58 ∷ []) ++ (places 10 2 (micros / 1000000 % 60)
    ++ ((46 ∷ []) ++ places 10 6 (micros % 1000000))))))

-- an instant outside the calendar has neither
unfoldable pub date_text : Option Date → List ℕ
date_text (Some d) = day_text d.year (month_of d.year d.day) ++ ((32 ∷ []) ++ time_text d.micros)
date_text None = bytes "- -"

unfoldable pub instant_text : ℕ → List ℕ
instant_text t = date_text (date_of t)
