-- Document 02, wishes 1 and 3: a record above 339999 is 16, and one with day 366.5 of 2001.
use Rattle.std.specs.Prelude.{◌≡◌, refl, Err}
use Rattle.tle.specs.Examples.{numbered, stamped}
use Rattle.tle.specs.Legal.{in_ranges, designator_fits, scaled_fits, in_layout, legal}
use Rattle.instant.specs.Calendar.{days_in, last_day, day_in_range}
use Rattle.opening.specs.declared.opening.Refusal.TheVariants as refusal
use Rattle.opening.specs.Opening.{number, open_of}

pub too_large : open_of (numbered 340000) ≡ Err refusal.Record
unfolding open_of legal in_layout
too_large = refl

pub short_year : open_of (stamped 2001 36650000000) ≡ Err refusal.Record
unfolding open_of legal in_layout in_ranges designator_fits scaled_fits day_in_range last_day days_in
short_year = refl

pub its_number : number refusal.Record ≡ 16
unfolding number
its_number = refl
