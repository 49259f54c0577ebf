-- What is claimed, besides demand 3, of satellites that opening gives, and proved in proofs/Plain. The code keeps numbers for speed, and its contracts
-- hold for any satellite handed in; of an opened one all it answers is 002's own. Definitions only.
use Rattle.std.specs.Prelude.{◌≡◌, cond, List, map, ℤ, Ok}
use Rattle.resonance.specs.Time.{in_range}
use Rattle.sgp4.specs.declared.Row.{Row}
use Rattle.sgp4.specs.Row.{refused_row, row_at}
use Rattle.sgp4.specs.Claims.{PlainRows}
use Rattle.tle.specs.declared.Record.{Record}
use Rattle.opening.specs.declared.opening.Satellite.{Satellite}
use Rattle.opening.specs.Opening.{open_of}
use Rattle.requests.specs.Request.{reached}
use Rattle.sequences.specs.Demand3.{Request, row_times, run, epoch}

-- at every position and time the row of an opened satellite is, bit for bit, `row_at`, the row of 002's own expressions (`plain_rows`)
abbrev pub OpenedPlain : Type 0
OpenedPlain = (r : Record) (s : Satellite) → open_of r ≡ Ok s → PlainRows s.model

-- the row of one time by 002's own expressions, asked of a newly opened satellite; a time out of range is refused with 9
abbrev pub plain_row : Satellite → ℤ → Row
plain_row s t = cond (in_range t) (row_at s.model (reached s.model s.place t).place t) (refused_row 9)

-- the rows that any sequence of requests to an opened satellite gives are these (`plain_answers`)
abbrev pub AnsweredPlain : Type 0
AnsweredPlain =
    (r : Record) (s : Satellite) → open_of r ≡ Ok s
    → (rs : List Request) → map (λ o. o.rows) (run s rs) ≡ map (λ q. map (plain_row s) (row_times (epoch s) q)) rs
