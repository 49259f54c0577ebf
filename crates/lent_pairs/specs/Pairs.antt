-- Two lines: read, printed, and their epoch. Definitions only.
use Rattle.std.specs.Prelude.{ℕ, Err, None, Ok, Option, Result, Some}
use Rattle.instant.specs.Calendar.{epoch_of}
use Rattle.tle.specs.declared.Record.{Record}
use Rattle.tle.specs.declared.Refusal.{Refusal}
use Rattle.instant.specs.declared.Instant.{Instant}
use Rattle.answers.specs.Answer.{answer}
use Rattle.answers.specs.Refusals.{refusal_answer}

-- ── read: 0, or 1 to 6 with their values ──

unfoldable pub reading_answer : Result Record Refusal → ℕ
reading_answer (Ok r) = answer 0 0 0 0
reading_answer (Err why) = refusal_answer why

-- ── printed: the bytes written, or 17 ──

unfoldable pub printed_answer : Option ℕ → ℕ
printed_answer (Some n) = answer 0 0 0 n
printed_answer None = answer 17 0 0 0

-- ── the epoch ──

-- refusal 6 "for an instant, nothing"; never of lines that are accepted (`epochs_inside` of tle)
unfoldable pub instant_answer : Option Instant → ℕ
instant_answer (Some t) = answer 0 0 0 0
instant_answer None = answer 6 0 0 0

unfoldable pub instant_put : Option Instant → ℕ → ℕ
instant_put (Some t) old = t.0
instant_put None old = old

unfoldable pub epoch_answer : Result Record Refusal → ℕ
epoch_answer (Ok r) = instant_answer (epoch_of r.year r.day)
epoch_answer (Err why) = refusal_answer why

-- the microseconds since 1957 January 1, 0h; what was there where the lines are refused
unfoldable pub epoch_put : Result Record Refusal → ℕ → ℕ
epoch_put (Ok r) old = instant_put (epoch_of r.year r.day) old
epoch_put (Err why) old = old
