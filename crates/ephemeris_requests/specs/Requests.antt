-- The request lines of `ephemeris`: those of `replay`, `grid START STEP COUNT` and `at YEAR DAY MICROSECONDS`. Definitions only.
use Rattle.std.specs.Prelude.{ℕ, ◌*◌, min, Bool, cond, ◌&&◌, List, ◌++◌, leb, eqb, ℤ, pos, ◌+ℤ◌, length, drop, None, Option, Some}
use Rattle.text.specs.Output.{bytes, decimal}
use Rattle.request_line.specs.Times.{signed}
use Rattle.request_line.specs.Request.{begun, request_of}
use Rattle.request_line.specs.declared.Request as rs
use Rattle.request_line.specs.declared.Request.TheVariants as request
use Rattle.station_text.specs.Words.{first, second, third, whole_in, micro_of, sign_size, start_of}
use Rattle.station_text.specs.declared.Whole.{Whole}
use Rattle.instant.specs.declared.Instant.{Instant}
use Rattle.ephemeris_requests.specs.declared.Signed.{Signed}
use Rattle.ephemeris_requests.specs.declared.Grid.{Grid}
use Rattle.ephemeris_requests.specs.declared.Fault as fs
use Rattle.ephemeris_requests.specs.declared.Fault.TheVariants as fault
use Rattle.ephemeris_requests.specs.declared.Ask as as'
use Rattle.ephemeris_requests.specs.declared.Ask.TheVariants as ask

-- ── a grid ──

-- 999,999,999.999999 s; a day; ten million rows
abbrev pub most_start : ℕ
most_start = 999999999999999

abbrev pub most_step : ℕ
most_step = 86400000000

abbrev pub most_count : ℕ
most_count = 10000000

-- seconds with up to six decimals, perhaps behind a minus sign, in microseconds
unfoldable pub signed_in : List ℕ → Signed
signed_in s = record { minus = eqb (sign_size s) 1; micros = micro_of (drop (sign_size s) s) }

unfoldable pub lawful : Whole → Whole → Whole → Bool
lawful start step count =
    start.good && step.good && count.good && leb start.value most_start
    && leb 1 step.value && leb step.value most_step && leb 1 count.value && leb count.value most_count

unfoldable pub grid_from : Signed → Whole → Whole → as'.Ask
grid_from start step count =
    cond (lawful start.micros step count)
    (ask.Steps (record { minus = start.minus; start = start.micros.value; step = step.value; count = count.value }))
    (ask.Bad fault.Grid)

-- START and STEP in seconds, COUNT a whole number
unfoldable pub grid_of : List ℕ → as'.Ask
grid_of s = grid_from (signed_in (first s)) (micro_of (second s)) (whole_in (third s))

-- the time of row i, from 0, in microseconds since the epoch
unfoldable pub time_at : Grid → ℕ → ℤ
time_at g i = signed g.minus (min g.start most_start) +ℤ pos (min i most_count * min g.step most_step)

-- ── a line ──

abbrev pub instant_ask : Option Instant → as'.Ask
instant_ask (Some t) = ask.At t
instant_ask None = ask.Bad fault.Instant

unfoldable pub other_of : List ℕ → as'.Ask
other_of s =
    cond (begun (bytes "grid ") s) (grid_of (drop 5 s))
    (cond (begun (bytes "at ") s) (instant_ask (start_of (drop 3 s))) (ask.Bad fault.Request))

abbrev pub asked : rs.Request → List ℕ → as'.Ask
asked request.One s = ask.Times 1
asked (request.List n) s = ask.Times n
asked request.TooMany s = ask.Bad fault.Times
asked request.Malformed s = other_of s

-- what a line asks, with room for so many times in the row
unfoldable pub ask_of : List ℕ → ℕ → as'.Ask
ask_of s room = asked (request_of s room) s

-- a first line that asks for commas
unfoldable pub commas_in : List ℕ → Bool
commas_in s = begun (bytes "commas") s && eqb (length s) 6

-- ── a bad line ──

abbrev pub fault_word : fs.Fault → List ℕ
fault_word fault.Request = bytes ": no request\n"
fault_word fault.Grid = bytes ": no grid START STEP COUNT in seconds\n"
fault_word fault.Instant = bytes ": no instant YEAR DAY MICROSECONDS\n"
fault_word fault.Times = bytes ": too many times in a line\n"

unfoldable pub fault_text : ℕ → fs.Fault → List ℕ
fault_text number why = bytes "line " ++ (decimal number ++ fault_word why)
