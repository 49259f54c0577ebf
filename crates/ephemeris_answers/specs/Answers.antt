-- The row of a time that a satellite in lent memory is asked for. Definitions only.
use Rattle.std.specs.Prelude.{ℕ, ◌/◌, ◌%◌, ◌≡◌, List, [], ℤ, Float, get_or, replicate, None, Ok, Option, Result, Some}
use Rattle.std.specs.Float.{nan}
use Rattle.floats.specs.Notation.{dec}
use Rattle.text.specs.Output.{Put}
use Rattle.instant.specs.Move.{move_of}
use Rattle.instant.specs.Since.{since_of}
use Rattle.instant.specs.declared.Instant.{Instant}
use Rattle.instant.specs.declared.MoveRefusal.{MoveRefusal}
use Rattle.instant.specs.declared.Microseconds.{Microseconds}
use Rattle.lent_requests.specs.Requests.{RequestPost}
use Rattle.ephemeris_text.specs.Rows.{row_text}
use Rattle.ephemeris_text.specs.declared.State.{State}
use Rattle.ephemeris_answers.specs.declared.Sheet.{Sheet}

-- position and velocity, as a request puts them into a room of six numbers
abbrev pub state_in : List Float → State
state_in l = record {
  x = get_or l 0 nan;
  y = get_or l 1 nan;
  z = get_or l 2 nan;
  vx = get_or l 3 nan;
  vy = get_or l 4 nan;
  vz = get_or l 5 nan;
}

-- The satellite is asked for a time, and the row of its answer is put: by specs/Answer of answers bits 0-7 of the answer are
-- the refusal number and bits 32-63 the strides. The memory afterwards is the one that the request leaves.
pub record Rowed (sep : ℕ) (when : Result Instant MoveRefusal) (t : ℤ) (ns : List Float) (ms out : List ℕ) (at : ℕ) (ns' : List Float) (ms' out' : List ℕ) (r : ℕ) : Type 0 where
  pub answer : ℕ
  pub state : List Float
  pub asked : RequestPost ns ms t (replicate 6 (dec 0 0)) answer ns' ms' state
  pub put : Put out at (row_text sep when (answer % 256) (state_in state) (answer / 4294967296)) out' r

-- a time since the epoch; its row shows the instant that it moves the epoch to
abbrev pub TimeRowed : Sheet → ℤ → List Float → List ℕ → List ℕ → ℕ → List Float → List ℕ → List ℕ → ℕ → Type 0
TimeRowed sheet t = Rowed sheet.sep (move_of sheet.epoch.0 t) t

-- An instant is asked for by the time since the epoch. Outside the calendar there is none, and no row.
pub record NoRow (ns : List Float) (ms out : List ℕ) (at : ℕ) (ns' : List Float) (ms' out' : List ℕ) (r : ℕ) : Type 0 where
  pub put : Put out at [] out' r
  pub numbers : ns' ≡ ns
  pub marks : ms' ≡ ms

abbrev pub ElapsedRowed : ℕ → Instant → Option Microseconds → List Float → List ℕ → List ℕ → ℕ → List Float → List ℕ → List ℕ → ℕ → Type 0
ElapsedRowed sep t (Some span) = Rowed sep (Ok t) span.0
ElapsedRowed sep t None = NoRow

abbrev pub InstantRowed : Sheet → Instant → List Float → List ℕ → List ℕ → ℕ → List Float → List ℕ → List ℕ → ℕ → Type 0
InstantRowed sheet t = ElapsedRowed sheet.sep t (since_of t.0 sheet.epoch.0)
