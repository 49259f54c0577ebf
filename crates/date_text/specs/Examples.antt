-- Worked examples: the definitions compute.
use Rattle.std.specs.Prelude.{◌≡◌, refl}
use Rattle.text.specs.Output.{bytes, places, glyph}
use Rattle.instant.specs.Calendar.{days_in, days_before, calendar_end, in_calendar, years_since, date_of}
use Rattle.date_text.specs.Date.{month_length, month_from, month_of, day_text, time_text, date_text, instant_text}

-- the first instant of the calendar and the last, and the one after it
first_instant : instant_text 0 ≡ bytes "1957-01-01 00:00:00.000000"
unfolding instant_text date_text date_of in_calendar calendar_end years_since days_before days_in month_of month_from month_length day_text time_text places glyph
first_instant = refl

last_instant : instant_text 3155759999999999 ≡ bytes "2056-12-31 23:59:59.999999"
unfolding instant_text date_text date_of in_calendar calendar_end years_since days_before days_in month_of month_from month_length day_text time_text places glyph
last_instant = refl

after_the_last : instant_text 3155760000000000 ≡ bytes "- -"
unfolding instant_text date_text date_of in_calendar calendar_end days_before days_in
after_the_last = refl

-- day 60 is 29 February of a leap year, and 1 March of another
leap_day : month_of 2024 60 ≡ record { month = 2; day = 29 }
unfolding month_of month_from month_length days_in
leap_day = refl

no_leap_day : month_of 2023 60 ≡ record { month = 3; day = 1 }
unfolding month_of month_from month_length days_in
no_leap_day = refl

last_of_a_leap_year : month_of 2000 366 ≡ record { month = 12; day = 31 }
unfolding month_of month_from month_length days_in
last_of_a_leap_year = refl
