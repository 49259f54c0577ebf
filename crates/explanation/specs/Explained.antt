-- A pair explained: what refuses it, in a sentence (document 01, refusals 1 to 8), or its number, epoch, period and kind.
use Rattle.std.specs.Prelude.{ℕ, ◌/◌, ◌%◌, List, ◌++◌, Bool, true, false, cond, eqb, Err, None, Ok, Option, Result, Some}
use Rattle.text.specs.Output.{bytes, decimal}
use Rattle.marked_line.specs.Marked.{part}
use Rattle.reading_faults.specs.Fault.{fault_text}
use Rattle.tle.specs.declared.Record as tle
use Rattle.opening.specs.Opening.{open_of}
use Rattle.instant.specs.Calendar.{epoch_of}
use Rattle.instant.specs.declared.Instant.{Instant}
use Rattle.tle.specs.declared.Record.{Record}
use Rattle.tle.specs.declared.Refusal.{Refusal}
use Rattle.date_text.specs.Date.{instant_text}
use Rattle.decimals.specs.Fixed.{fixed_text}
use Rattle.satellite_kind.specs.Kind.{opening_kind, perigee_depth}
use Rattle.satellite_kind.specs.declared.Kind.{Kind}
use Rattle.satellite_kind.specs.declared.Kind.TheVariants.{NearEarth, DeepSpace, OneDay, HalfDay, Perigee, NotFinite, NoRecord}

-- the whole seconds of a revolution, by the mean motion in 10 ^ -8 revolution a day
unfoldable pub period_of : ℕ → ℕ
period_of motion = cond (eqb motion 0) 0 (8640000000000 / motion)

unfoldable pub period_text : ℕ → List ℕ
period_text motion = bytes ", period " ++ (decimal (period_of motion / 60) ++ (bytes " min " ++ (decimal (period_of motion % 60) ++ bytes " s")))

-- an epoch as a date and a time of day
abbrev pub date_of_epoch : Option Instant → List ℕ
date_of_epoch (Some t) = instant_text t.0
date_of_epoch None = bytes "- -"

-- and the day as columns 21 to 32 of line 1 have it
unfoldable pub epoch_text : tle.Record → List ℕ → List ℕ
epoch_text r line1 = bytes ", epoch " ++ (date_of_epoch (epoch_of r.year r.day) ++ (bytes " (day " ++ (part 20 12 line1 ++ bytes ")")))

unfoldable pub well_text : List ℕ → tle.Record → List ℕ → List ℕ
well_text kind r line1 = bytes "well: satellite " ++ (decimal r.number ++ (epoch_text r line1 ++ (period_text r.motion ++ kind)))

-- refusal 7, with how deep the perigee lies, in km with a decimal
unfoldable pub perigee_text : tle.Record → List ℕ
perigee_text r = bytes "refusal 7: at the epoch the perigee lies " ++ (fixed_text 1 (perigee_depth r) ++ bytes " km below the ground.\n")

-- a record in its ranges, by what opening it comes to
unfoldable pub record_text : Kind → tle.Record → List ℕ → List ℕ
record_text NearEarth r line1 = well_text (bytes ", near Earth.\n") r line1
record_text DeepSpace r line1 = well_text (bytes ", deep space.\n") r line1
record_text OneDay r line1 = well_text (bytes ", deep space, one-day resonance.\n") r line1
record_text HalfDay r line1 = well_text (bytes ", deep space, half-day resonance.\n") r line1
record_text Perigee r line1 = perigee_text r
record_text NotFinite r line1 = bytes "refusal 8: opening it gives a number that is not finite.\n"
record_text NoRecord r line1 = bytes "refusal 16: no two lines have these fields.\n"

unfoldable pub opened_text : tle.Record → List ℕ → List ℕ
opened_text r line1 = record_text (opening_kind (open_of r)) r line1

unfoldable pub reading_text : Result Record Refusal → List ℕ → List ℕ → List ℕ
reading_text (Ok r) line1 line2 = opened_text r line1
reading_text (Err why) line1 line2 = fault_text why line1 line2

-- a satellite comes of it
abbrev pub opens : Kind → Bool
opens NearEarth = true
opens DeepSpace = true
opens OneDay = true
opens HalfDay = true
opens Perigee = false
opens NotFinite = false
opens NoRecord = false

-- accepted, and opens
unfoldable pub is_well : Result Record Refusal → Bool
is_well (Ok r) = opens (opening_kind (open_of r))
is_well (Err why) = false

-- how far a long text is
unfoldable pub progress_text : ℕ → List ℕ
progress_text pairs = bytes "progress: " ++ (decimal pairs ++ bytes " pairs\n")
