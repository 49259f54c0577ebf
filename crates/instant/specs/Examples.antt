-- Worked examples.
use Rattle.std.specs.Prelude.{◌≡◌, refl, false, [], ◌∷◌, map, ◌-◌, ◌*◌, pos, negsuc, None, Ok, Some}
use Rattle.std.specs.Float.{fin}
use Rattle.std.specs.Float.Ieee.{add, sum, round, units, odd, size, span, climb}
use Rattle.std.specs.Int.Count.{count_trailing_zeros}
use Rattle.instant.specs.Quantity.{over, minutes_of, decimal_of, powered_of, scaled_of}
use Rattle.instant.specs.Calendar.{days_in, days_before, calendar_end, in_calendar, year_in_range, last_day, day_in_range, epoch_micros, epoch_of, years_since, date_of}
use Rattle.instant.specs.Move.{span_limit, in_span, landed, reached, move_of, refusal}
use Rattle.elementary.specs.Notation.{dec}
use Rattle.instant.specs.Since.{since_of, elapsed_refusal}
use Rattle.instant.specs.Greenwich.{epoch_days_of, julian_of, julian_at, greenwich_at, days_refusal, angle_refusal}

-- the epoch of document 01's example, 2000 179.78495062, and that instant taken apart
vanguard : epoch_of 2000 17978495062 ≡ Some (record { 0 = 1372359019733568 })
unfolding epoch_of year_in_range day_in_range last_day epoch_micros days_before days_in
vanguard = refl

vanguard_date : date_of 1372359019733568 ≡ Some (record { year = 2000; day = 179; micros = 67819733568 })
unfolding date_of in_calendar calendar_end years_since days_before days_in
vanguard_date = refl

-- document 02, wish 3: the first year, a common one, ends at day 365.99999999, one unit before January 1 of the next
day_365 : epoch_of 1957 36599999999 ≡ Some (record { 0 = 365 * 86400000000 - 864 })
unfolding epoch_of year_in_range day_in_range last_day epoch_micros days_before days_in
day_365 = refl

day_366 : map (λ year. epoch_of year 36600000000) (1957 ∷ 1999 ∷ 2001 ∷ 2055 ∷ [])
    ≡ None ∷ None ∷ None ∷ None ∷ []
unfolding epoch_of year_in_range day_in_range last_day days_in
day_366 = refl

-- 2000 is a leap year, and the last one ends the calendar
leap_2000 : date_of 1388534399999136 ≡ Some (record { year = 2000; day = 366; micros = 86399999136 })
unfolding date_of in_calendar calendar_end years_since days_before days_in
leap_2000 = refl

day_366_2000 : epoch_of 2000 36699999999 ≡ Some (record { 0 = 1388534399999136 })
unfolding epoch_of year_in_range day_in_range last_day epoch_micros days_before days_in
day_366_2000 = refl

day_366_2056 : epoch_of 2056 36699999999 ≡ Some (record { 0 = 3155760000000000 - 864 })
unfolding epoch_of year_in_range day_in_range last_day epoch_micros days_before days_in
day_366_2056 = refl

day_367 : epoch_of 1960 36700000000 ≡ None
unfolding epoch_of year_in_range day_in_range last_day days_in
day_367 = refl

last_instant : date_of 3155759999999999 ≡ Some (record { year = 2056; day = 366; micros = 86399999999 })
unfolding date_of in_calendar calendar_end years_since days_before days_in
last_instant = refl

-- 315,532,800,000,000 microseconds is the longest move; 9 comes before 6
longest : move_of 0 (pos 315532800000000) ≡ Ok (record { 0 = 315532800000000 })
unfolding move_of in_span span_limit in_calendar calendar_end days_before days_in reached landed
longest = refl

too_long : refusal (move_of 3155760000000000 (negsuc 315532800000000)) ≡ 9
unfolding refusal move_of in_span span_limit
too_long = refl

before_1957 : refusal (move_of 0 (negsuc 0)) ≡ 6
unfolding refusal move_of in_span span_limit in_calendar calendar_end days_before days_in reached landed
before_1957 = refl

-- one microsecond before the epoch; and refusal 6 at 2057 January 1, 0h, for a time, days and an angle
just_before : since_of 1372359019733567 1372359019733568 ≡ Some (record { 0 = negsuc 0 })
unfolding since_of in_calendar calendar_end days_before days_in
just_before = refl

no_time : elapsed_refusal (since_of 0 3155760000000000) ≡ 6
unfolding elapsed_refusal since_of in_calendar calendar_end days_before days_in
no_time = refl

no_days : days_refusal (julian_at 3155760000000000) ≡ 6
unfolding days_refusal julian_at in_calendar calendar_end days_before days_in
no_days = refl

no_angle : angle_refusal (greenwich_at 3155760000000000) ≡ 6
unfolding angle_refusal greenwich_at in_calendar calendar_end days_before days_in
no_angle = refl

-- 2000 January 1, 12h, is Julian date 2451545
noon : julian_at 1356955200000000 ≡ Some (record { 0 = dec 2451545 0 })
unfolding julian_at julian_of epoch_days_of in_calendar calendar_end days_before days_in add sum round units odd size span climb count_trailing_zeros
noon = refl

-- a day is 1440 minutes; 28098-4 is 0.000028098, and -12345+6 is -123450, which is as many minutes as -7407000000000 microseconds
one_day_lem : minutes_of (pos 86400000000) ≡ fin false 45 (pos 5)
unfolding minutes_of over round units odd size span climb count_trailing_zeros
one_day_lem = refl

bstar : scaled_of (pos 28098) (negsuc 3) ≡ decimal_of 28098 9
unfolding scaled_of powered_of over decimal_of round units odd size span climb count_trailing_zeros
bstar = refl

large : scaled_of (negsuc 12344) (pos 6) ≡ minutes_of (negsuc 7406999999999)
unfolding scaled_of powered_of over minutes_of round units odd size span climb count_trailing_zeros
large = refl
