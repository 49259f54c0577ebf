-- Document 01, "Cases at the edges": the cases marked P as data, what each claims, and the list of them; with them cases of document 02.
use Rattle.std.specs.Prelude.{ℕ, ◌%◌, ◌≡◌, true, List, [], ◌∷◌, ◌++◌, map, take, Err, Ok, Result}
use Rattle.instant.specs.Calendar.{day_micros, epoch_micros}
use Rattle.text.specs.Output.{bytes}
use Rattle.tle.specs.Examples.{line1, line2}
use Rattle.columns.specs.Sum.{sum}
use Rattle.tle.specs.Refusals.{number_of, values_of, Values, line, line_column, field}
use Rattle.tle.specs.Read.{checksum_of, fields_of, read_of}
use Rattle.tle.specs.declared.Field.TheVariants.{Day, Inclination, Node}
use Rattle.tle.specs.declared.Record as tle
use Rattle.tle.specs.declared.Record.{Record}
use Rattle.tle.specs.declared.Refusal.{Refusal}
use Rattle.resonance.specs.Time.{resonant}
use Rattle.opening.specs.declared.opening.Satellite.{Satellite}
use Rattle.opening.specs.Opening.{open_of}
use Rattle.sgp4.specs.Sgp4.{integrator_of}
use Rattle.sequences.specs.Demand3.{One, reported}
use Rattle.sequences.specs.Edges as E

pub record Pair : Type 0 where
  pub line1 : List ℕ
  pub line2 : List ℕ

pub data Case : Type 0 where
  -- a line, the sum over its columns 1 to 68, and the checksum digit
  line_sum : List ℕ → ℕ → ℕ → Case
  -- a year, a day of it in units of 10 ^ -8, and the microseconds of that day
  day_micros_lem : ℕ → ℕ → ℕ → Case
  -- a pair that is read, a field of its record, and the field's value
  reads : Pair → (tle.Record → ℕ) → ℕ → Case
  -- a pair that is refused, the number, and what comes back with it
  refuses : Pair → ℕ → Values → Case
  -- single requests put one after the other to a newly opened resonant satellite: which are refused with 9, and the strides that each reports
  strides : E.Edge → Case

-- a refusal by its number and what comes back with it; a record is none
pub data Outcome : Type 0 where
  accepted : Outcome
  refused : ℕ → Values → Outcome

unfoldable pub outcome : Result Record Refusal → Outcome
outcome (Ok r) = accepted
outcome (Err why) = refused (number_of why) (values_of why)

-- what a case claims
unfoldable pub Claim : Case → Type 0
Claim (line_sum l total digit) = (sum (take 68 l) ≡ total) × (checksum_of l ≡ digit)
Claim (day_micros_lem year day micros) = epoch_micros year day % day_micros ≡ micros
Claim (reads p part value) =
    (read_of p.line1 p.line2 ≡ Ok (fields_of p.line1 p.line2)) × (part (fields_of p.line1 p.line2) ≡ value)
Claim (refuses p number values) = outcome (read_of p.line1 p.line2) ≡ refused number values
Claim (strides e) =
    (r : tle.Record) (s : Satellite) → open_of r ≡ Ok s → resonant (integrator_of s.model).resonance ≡ true
    → (map (E.refused_nine s) e.times ≡ e.nine) × (reported s (map One e.times) ≡ e.strides)

-- a claim holds of every element of a list
unfoldable pub Every : {A : Type 0} → (A → Type 0) → List A → Type 0
Every P [] = Unit {0}
Every P (a ∷ l) = P a × Every P l

-- 002's example with another line 1, or another line 2
abbrev pub with1 : List ℕ → Pair
with1 l = record { line1 = l; line2 = line2 }

abbrev pub with2 : List ℕ → Pair
with2 l = record { line1 = line1; line2 = l }

-- the cases of lines, years, days and checksums, in document 01's order
unfoldable pub lines : List Case
lines =
    -- line sums above are 133 and 217, digits 3 and 7
    line_sum line1 133 3
    ∷ line_sum line2 217 7
    -- day fraction 78495062 is 67,819,733,568 microseconds
    ∷ day_micros_lem 2000 17978495062 67819733568
    -- a comma in line 2 column 12: refusal 3, column 12
    ∷ refuses (with2 (bytes "2 00005  34,2682 348.7242 1859667 331.7664  19.3264 10.82419157413667")) 3 (line_column 2 12)
    -- 68 bytes: 1
    ∷ refuses (with1 (take 68 line1)) 1 (line 1)
    ∷ refuses (with2 (take 68 line2)) 1 (line 2)
    -- inclination 180.0000 read, 180.0001 is 6
    ∷ reads (with2 (bytes "2 00005 180.0000 348.7242 1859667 331.7664  19.3264 10.82419157413661")) (λ r. r.inclination) 1800000
    ∷ refuses (with2 (bytes "2 00005 180.0001 348.7242 1859667 331.7664  19.3264 10.82419157413662")) 6 (field Inclination)
    -- node 359.9999 read, 360.0000 is 6
    ∷ reads (with2 (bytes "2 00005  34.2682 359.9999 1859667 331.7664  19.3264 10.82419157413660")) (λ r. r.node) 3599999
    ∷ refuses (with2 (bytes "2 00005  34.2682 360.0000 1859667 331.7664  19.3264 10.82419157413666")) 6 (field Node)
    -- year 57 is 1957, 56 is 2056
    ∷ reads (with1 (bytes "1 00005U 58002B   57179.78495062  .00000023  00000-0  28098-4 0  4755")) (λ r. r.year) 1957
    ∷ reads (with1 (bytes "1 00005U 58002B   56179.78495062  .00000023  00000-0  28098-4 0  4754")) (λ r. r.year) 2056
    -- day 000.99999999 is 6
    ∷ refuses (with1 (bytes "1 00005U 58002B   00000.99999999  .00000023  00000-0  28098-4 0  4757")) 6 (field Day)
    ∷ []

-- document 02, wish 3: a common year ends at day 365.99999999, a leap year, 2000 among them, at 366.99999999
unfoldable pub days : List Case
days =
    -- 01366.5 is 6, 00366.5 is read
    refuses (with1 (bytes "1 00005U 58002B   01366.50000000  .00000023  00000-0  28098-4 0  4756")) 6 (field Day)
    ∷ reads (with1 (bytes "1 00005U 58002B   00366.50000000  .00000023  00000-0  28098-4 0  4755")) (λ r. r.day) 36650000000
    -- 57365.99999999 is read, 57366.00000000 is 6
    ∷ reads (with1 (bytes "1 00005U 58002B   57365.99999999  .00000023  00000-0  28098-4 0  4753")) (λ r. r.day) 36599999999
    ∷ refuses (with1 (bytes "1 00005U 58002B   57366.00000000  .00000023  00000-0  28098-4 0  4752")) 6 (field Day)
    -- 56366.99999999 is read, 00367.00000000 is 6
    ∷ reads (with1 (bytes "1 00005U 58002B   56366.99999999  .00000023  00000-0  28098-4 0  4753")) (λ r. r.day) 36699999999
    ∷ refuses (with1 (bytes "1 00005U 58002B   00367.00000000  .00000023  00000-0  28098-4 0  4751")) 6 (field Day)
    ∷ []

-- all cases: those of lines and of days, and those that count strides (specs/Edges of sequences)
unfoldable pub edges : List Case
edges = lines ++ days ++ map strides E.edges
