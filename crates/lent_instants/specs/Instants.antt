-- Instants for C and Rust: what a move, a date and the instant of a date answer, and what they leave in lent memory. Definitions only.
use Rattle.std.specs.Prelude.{ℕ, ◌*◌, List, cond, leb, ltb, pos, length, set, Err, None, Ok, Option, Result, Some}
use Rattle.instant.specs.Calendar.{day_micros, epoch_of}
use Rattle.instant.specs.Move.{move_of}
use Rattle.instant.specs.declared.Instant.{Instant}
use Rattle.instant.specs.declared.MoveRefusal.{MoveRefusal}
use Rattle.instant.specs.declared.MoveRefusal.TheVariants as move_refusal
use Rattle.instant.specs.declared.Date.{Date}
use Rattle.answers.specs.Answer.{answer}

-- "A move: 9, 6"
unfoldable pub moved_answer : Result Instant MoveRefusal → ℕ
moved_answer (Ok t) = answer 0 0 0 0
moved_answer (Err move_refusal.TooFar) = answer 9 0 0 0
moved_answer (Err move_refusal.Outside) = answer 6 0 0 0

-- the instant reached; what was there where there is none
unfoldable pub moved_put : Result Instant MoveRefusal → ℕ → ℕ
moved_put (Ok t) old = t.0
moved_put (Err move_refusal.TooFar) old = old
moved_put (Err move_refusal.Outside) old = old

abbrev pub later : Option Instant → ℕ → Result Instant MoveRefusal
later (Some t) micros = move_of t.0 (pos micros)
later None micros = (Err move_refusal.Outside)

-- the instant of a year, a day of it from 1 and a time of that day: the day's start, moved by the time
unfoldable pub instant_of : ℕ → ℕ → ℕ → Result Instant MoveRefusal
instant_of year day micros =
    cond (ltb 366 day) (Err move_refusal.Outside) (cond (leb day_micros micros) (Err move_refusal.Outside) (later (epoch_of year (day * 100000000)) micros))

-- 6, then 17
unfoldable pub date_answer : Option Date → ℕ → ℕ
date_answer (Some d) room = cond (ltb room 3) (answer 17 0 0 0) (answer 0 0 0 0)
date_answer None room = answer 6 0 0 0

-- year, day and microseconds at the front of a room that holds them
unfoldable pub date_over : Option Date → List ℕ → List ℕ
date_over (Some d) out = cond (ltb (length out) 3) out (set (set (set out 0 d.year) 1 d.day) 2 d.micros)
date_over None out = out
