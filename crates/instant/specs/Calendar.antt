-- Instants and their calendar, document 01, "Instants". Definitions only.
use Rattle.std.specs.Prelude.{ℕ, zero, suc, ◌+◌, ◌-◌, ◌*◌, ◌/◌, ◌%◌, Bool, cond, ◌&&◌, List, [], ◌∷◌, leb, ltb, eqb, None, Option, Some}
use Rattle.instant.specs.declared.Instant.{Instant}
use Rattle.instant.specs.declared.Date.{Date}

-- microseconds in a day of 86,400 s, and in one unit of the epoch's last digit, 10 ^ -8 day
abbrev pub day_micros : ℕ
day_micros = 86400000000

abbrev pub unit_micros : ℕ
unit_micros = 864

-- The days of a year. The one century year of 1957-2056 is 2000, which 400 divides, so 4 alone decides
unfoldable pub days_in : ℕ → ℕ
days_in year = cond (eqb (year % 4) 0) 366 365

-- the days from 1957 January 1 to January 1 of the year k years later
unfoldable pub days_before : ℕ → ℕ
days_before zero = 0
days_before (suc k) = days_before k + days_in (1957 + k)

-- 2057 January 1, 0h
unfoldable pub calendar_end : ℕ
calendar_end = days_before 100 * day_micros

-- "An instant .. lies before 2057 January 1, 0h"
unfoldable pub in_calendar : ℕ → Bool
in_calendar t = ltb t calendar_end

-- The last day that an epoch of the year may have. Document 02, wish 3: "a common year ends at day 365.99999999"
unfoldable pub last_day : ℕ → ℕ
last_day year = days_in year

-- a day of the year in units of 10 ^ -8 day; January 1, 0h, is 100000000
unfoldable pub day_in_range : ℕ → ℕ → Bool
day_in_range year day = leb 100000000 day && ltb day ((last_day year + 1) * 100000000)

unfoldable pub year_in_range : ℕ → Bool
year_in_range year = leb 1957 year && leb year 2056

-- microseconds from 1957 January 1, 0h, to a year, a day of it counted from 1, and a time of that day
unfoldable pub together : ℕ → ℕ → ℕ → ℕ
together year day micros = (days_before (year - 1957) + (day - 1)) * day_micros + micros

-- to a year and a day of it in units of 10 ^ -8 day
unfoldable pub epoch_micros : ℕ → ℕ → ℕ
epoch_micros year day = days_before (year - 1957) * day_micros + (day - 100000000) * unit_micros

unfoldable pub epoch_of : ℕ → ℕ → Option Instant
epoch_of year day = cond (year_in_range year && day_in_range year day) (Some (record { 0 = epoch_micros year day })) None

-- The years before the year of a day, from 1957, by the days before that day. `one_year` of proofs/Theorems.antt says that no other year has it
unfoldable pub years_since : ℕ → ℕ
years_since days = (4 * days + 3) / 1461

-- an instant as year, day of the year from 1, microseconds of the day
unfoldable pub date_of : ℕ → Option Date
date_of t =
    let days = t / day_micros in
    let k = years_since days in
    cond (in_calendar t) (Some (record { year = 1957 + k; day = days - days_before k + 1; micros = t % day_micros })) None

-- document 01's refusal number of each answer, 0 where there is an instant or a date, and what comes back: with a refusal nothing
unfoldable pub epoch_refusal : Option Instant → ℕ
epoch_refusal (Some t) = 0
epoch_refusal None = 6

unfoldable pub epoch_values : Option Instant → List ℕ
epoch_values (Some t) = t.0 ∷ []
epoch_values None = []

unfoldable pub dated_refusal : Option Date → ℕ
dated_refusal (Some d) = 0
dated_refusal None = 6

unfoldable pub dated_values : Option Date → List ℕ
dated_values (Some d) = d.year ∷ d.day ∷ d.micros ∷ []
dated_values None = []
