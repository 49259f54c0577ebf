-- Worked examples: the definitions compute.
use Rattle.std.specs.Prelude.{◌≡◌, refl, Err, Ok}
use Rattle.std.specs.Float.Ieee.{round, neg, lt}
use Rattle.floats.specs.Notation.{dec}
use Rattle.text.specs.Output.{bytes, spell, places, glyph}
use Rattle.decimals.specs.Fixed.{units_of, in_range, shown, units_text, signed_text, fixed_text}
use Rattle.instant.specs.Calendar.{days_in, days_before, calendar_end, in_calendar, years_since, date_of}
use Rattle.instant.specs.declared.MoveRefusal.TheVariants as move_refusal
use Rattle.date_text.specs.Date.{month_length, month_from, month_of, day_text, time_text, date_text, instant_text}
use Rattle.ephemeris_text.specs.declared.State.{State}
use Rattle.ephemeris_text.specs.Rows.{three_words, state_names, header_text, three_numbers, state_text, no_state, values_text, when_text, row_text}

with_blanks : header_text 32 ≡ bytes "date time refusal x_km y_km z_km vx_km_s vy_km_s vz_km_s strides\n"
unfolding header_text state_names three_words
with_blanks = refl

with_commas : header_text 44 ≡ bytes "date time,refusal,x_km,y_km,z_km,vx_km_s,vy_km_s,vz_km_s,strides\n"
unfolding header_text state_names three_words
with_commas = refl

abbrev state : State
state = record { x = dec 702246529 5; y = neg (dec 140008 2); z = dec 0 0; vx = dec 189384 5; vy = dec 6405893759 9; vz = dec 4534807250 9 }

row_with_commas : row_text 44 (Ok (record { 0 = 0 })) 0 state 3
    ≡ bytes "1957-01-01 00:00:00.000000,0,7022.465290,-1400.080000,0.000000,1.893840000,6.405893759,4.534807250,3\n"
unfolding row_text when_text values_text state_text three_numbers fixed_text shown in_range signed_text units_text units_of spell instant_text date_text date_of in_calendar calendar_end years_since days_before days_in month_of month_from month_length day_text time_text places glyph round neg lt
row_with_commas = refl

refused_row_lem : row_text 32 (Err move_refusal.TooFar) 9 state 0 ≡ bytes "- - 9 - - - - - - 0\n"
unfolding row_text when_text values_text no_state three_words spell
refused_row_lem = refl
