-- The premises are met by some moves, and none of them can be left out: examples, each by computation. 315,532,800,000,000 microseconds are 3,652 days.
use Rattle.std.specs.Prelude.{◌≡◌, refl, pos, negsuc, Err}
use Rattle.instant.specs.Calendar.{in_calendar, calendar_end, days_before, days_in}
use Rattle.instant.specs.Move.{span_limit, in_span, landed, reached, move_of}
use Rattle.instant.specs.declared.MoveRefusal.TheVariants as move_refusal
use Rattle.moves.specs.Moves.{to, then_by, Leads}

-- in range: a day on from 1957 January 1, an hour back from there, and both in one
a_day : Leads 0 (pos 86400000000) 86400000000
unfolding in_calendar calendar_end days_before days_in in_span span_limit
a_day = record { start = refl; span = refl; sum = refl; reached = refl }

an_hour_back : Leads 86400000000 (negsuc 3599999999) 82800000000
unfolding in_calendar calendar_end days_before days_in in_span span_limit
an_hour_back = record { start = refl; span = refl; sum = refl; reached = refl }

twice : then_by (move_of 0 (pos 86400000000)) (negsuc 3599999999) ≡ move_of 0 (pos 82800000000)
unfolding move_of in_span span_limit in_calendar calendar_end days_before days_in reached landed
twice = refl

-- the sum in range, the first span not: 9, where one move by the sum is made
first_span : (then_by (move_of 0 (pos 315532800000001)) (negsuc 315532799999999) ≡ Err move_refusal.TooFar) × (move_of 0 (pos 1) ≡ to 1)
unfolding move_of in_span span_limit in_calendar calendar_end days_before days_in reached landed
first_span = (refl, refl)

-- the sum in range, the second span not: 9, where one move by the sum is made
second_span : (then_by (move_of 1 (negsuc 0)) (pos 315532800000001) ≡ Err move_refusal.TooFar) × (move_of 1 (pos 315532800000000) ≡ to 315532800000001)
unfolding move_of in_span span_limit in_calendar calendar_end days_before days_in reached landed
second_span = (refl, refl)

-- the middle instant outside the calendar: 6, where one move by the sum is made
middle : (then_by (move_of 0 (negsuc 0)) (pos 2) ≡ Err move_refusal.Outside) × (move_of 0 (pos 1) ≡ to 1)
unfolding move_of in_span span_limit in_calendar calendar_end days_before days_in reached landed
middle = (refl, refl)

-- the spans in range, their sum not: two moves are made, where one move by the sum is 9
sum : (then_by (move_of 0 (pos 315532800000000)) (pos 1) ≡ to 315532800000001) × (move_of 0 (pos 315532800000001) ≡ Err move_refusal.TooFar)
unfolding move_of in_span span_limit in_calendar calendar_end days_before days_in reached landed
sum = (refl, refl)

-- there and back from the first instant, backward first: 6, since the middle instant lies before 1957
back : then_by (move_of 0 (negsuc 0)) (pos 1) ≡ Err move_refusal.Outside
unfolding move_of in_span span_limit in_calendar calendar_end days_before days_in reached landed
back = refl
