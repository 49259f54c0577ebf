-- What is claimed of an epoch's instant, and of time since an epoch beside moving an instant. proofs/Theorems proves each. Definitions
-- only.
use Rattle.std.specs.Prelude.{◌≡◌, true, ℕ, ◌+◌, ◌*◌, ◌/◌, ◌%◌, ℤ, pos, Ok, Some}
use Rattle.instant.specs.Calendar.{unit_micros, in_calendar, year_in_range, day_in_range, epoch_micros, epoch_of, date_of}
use Rattle.instant.specs.Move.{in_span, move_of}
use Rattle.instant.specs.Since.{since_of}

-- ---- document 02, wish 3: every epoch has one date and one instant

-- the instant of an epoch, taken apart, is that year, that day and that time of the day
abbrev pub EpochsApart : Type 0
EpochsApart =
    (year day : ℕ) → year_in_range year ≡ true → day_in_range year day ≡ true
    → date_of (epoch_micros year day) ≡ Some (record { year = year; day = day / 100000000; micros = day % 100000000 * unit_micros })

-- no two epochs have one instant
abbrev pub EpochsDiffer : Type 0
EpochsDiffer =
    (year day year' day' : ℕ) → year_in_range year ≡ true → day_in_range year day ≡ true → year_in_range year' ≡ true → day_in_range year' day' ≡ true
    → epoch_micros year day ≡ epoch_micros year' day' → (year ≡ year') × (day ≡ day')

-- every date whose time is a count of the epoch's last digit is that of an epoch: no day of the calendar is left out
abbrev pub DatesAreEpochs : Type 0
DatesAreEpochs =
    (t year day units : ℕ) → date_of t ≡ Some (record { year = year; day = day; micros = units * unit_micros })
    → epoch_of year (day * 100000000 + units) ≡ Some (record { 0 = t })

-- ---- time since an epoch, and moves

-- an epoch moved by the time since it gives the instant, where a move may be that long
abbrev pub SinceThenMove : Type 0
SinceThenMove = (t epoch : ℕ) (z : ℤ) → since_of t epoch ≡ Some (record { 0 = z }) → in_span z ≡ true → move_of epoch z ≡ Ok (record { 0 = t })

-- the time since the start of a move that is made is its span
abbrev pub MoveThenSince : Type 0
MoveThenSince = (t epoch : ℕ) (z : ℤ) → move_of epoch z ≡ Ok (record { 0 = t }) → since_of t epoch ≡ Some (record { 0 = z })

-- no time has gone by since the instant itself
abbrev pub SinceItself : Type 0
SinceItself = (t : ℕ) → in_calendar t ≡ true → since_of t t ≡ Some (record { 0 = pos 0 })
