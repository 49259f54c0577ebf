-- The epoch of a record is in the calendar, where days and the Greenwich angle are never refused.
use Prim.Native.Nat.{ℕ}
use mathlib.Core.Path.{◌≡◌, refl, sym, ap, ◌∙◌}
use mathlib.Core.Bool.{Bool, true, false, cond, ◌&&◌}
use lib.Ieee.{Float}
use Rattle.elementary.specs.Notation.{dec}
use Rattle.instant.specs.declared.Instant.{Instant}
use Rattle.std.specs.Prelude.{None, Option, Some}
use Rattle.instant.specs.declared.Days.{Days}
use Rattle.instant.specs.declared.Radians.{Radians}
use Rattle.instant.specs.Calendar.{in_calendar, year_in_range, day_in_range, epoch_micros, epoch_of, calendar_end}
use Rattle.instant.specs.Greenwich.{epoch_days_of, epoch_days_at, greenwich_of, greenwich_at}
use Rattle.instant.proofs.Theorems.{epoch_inside}
use borrow.Author.Tests.{lt-ltb}
use Rattle.opening.proofs.Tests.{left, right}

-- the number in an answer, and what the code puts for a refusal
unfoldable pub days_in : Option Days → Float
days_in (Some d) = d.0
days_in None = dec 0 0

unfoldable pub angle_in : Option Radians → Float
angle_in (Some a) = a.0
angle_in None = dec 0 0

pub days_inside : (t : ℕ) (x : Option Days) → in_calendar t ≡ true → x ≡ epoch_days_at t → days_in x ≡ epoch_days_of t
unfolding days_in epoch_days_at
days_inside t x h e = ap days_in e ∙ ap (λ (b : Bool). days_in (cond b (Some (record { 0 = epoch_days_of t })) None)) h

pub angle_inside : (t : ℕ) (x : Option Radians) → in_calendar t ≡ true → x ≡ greenwich_at t → angle_in x ≡ greenwich_of t
unfolding angle_in greenwich_at
angle_inside t x h e = ap angle_in e ∙ ap (λ (b : Bool). angle_in (cond b (Some (record { 0 = greenwich_of t })) None)) h

micros_in : Option Instant → ℕ
micros_in (Some t) = t.0
micros_in None = 0

-- an epoch that is given is in the calendar
given : (b : Bool) (year day : ℕ) (t : Instant) → year_in_range year && day_in_range year day ≡ b
    → Some t ≡ cond b (Some (record { 0 = epoch_micros year day })) None → in_calendar t.0 ≡ true
unfolding micros_in in_calendar
given true year day t h e =
    let y = left (year_in_range year) (day_in_range year day) h in
    let d = right (year_in_range year) (day_in_range year day) h in
    ap (λ (x : Option Instant). in_calendar (micros_in x)) e ∙ lt-ltb (epoch_micros year day) calendar_end (epoch_inside year day y d).1
given false year day t h e = cc

pub epoch_given : (year day : ℕ) (x : Option Instant) (t : Instant) → x ≡ epoch_of year day → x ≡ Some t → in_calendar t.0 ≡ true
unfolding epoch_of
epoch_given year day x t e h = given (year_in_range year && day_in_range year day) year day t refl (sym h ∙ e)
