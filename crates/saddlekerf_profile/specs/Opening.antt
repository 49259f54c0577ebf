-- Two lines opened by the profile into memory that is lent. Definitions only.
use Rattle.std.specs.Prelude.{ℕ, List, Float, Err, Ok, Result}
use Rattle.satellite.specs.declared.NearEarth.{NearEarth}
use Rattle.instant.specs.declared.Instant.{Instant}
use Rattle.tle.specs.declared.Refusal.{Refusal}
use Rattle.tle.specs.declared.Record.{Record}
use Rattle.profile.specs.declared.opener.Refusal.{Refusal as ProfileRefusal}
use Rattle.profile.specs.Opening.{number, open_of}
use Rattle.storage.specs.Near.{near_satellite, near_refusal, near_stored_numbers, near_stored_marks}
use Rattle.answers.specs.Answer.{answer}
use Rattle.answers.specs.Refusals.{refusal_answer}

-- ── a record: 16, 7, 32, 8, then 17; a refused call writes nothing; of memory with n numbers and m marks ──

unfoldable pub opened_answer : Result (NearEarth × Instant) ProfileRefusal → ℕ → ℕ → ℕ
opened_answer (Ok (near, t)) n m = answer (near_refusal n m) 0 0 0
opened_answer (Err why) n m = answer (number why) 0 0 0

unfoldable pub opened_numbers : Result (NearEarth × Instant) ProfileRefusal → List Float → List ℕ → List Float
opened_numbers (Ok (near, t)) ns ms = near_stored_numbers (near_satellite near t) ns ms
opened_numbers (Err why) ns ms = ns

unfoldable pub opened_marks : Result (NearEarth × Instant) ProfileRefusal → List Float → List ℕ → List ℕ
opened_marks (Ok (near, t)) ns ms = near_stored_marks (near_satellite near t) ns ms
opened_marks (Err why) ns ms = ms

-- ── two lines: 1 to 6 with their values before all these (16 is never given for lines) ──

unfoldable pub open_answer : Result Record Refusal → ℕ → ℕ → ℕ
open_answer (Ok r) n m = opened_answer (open_of r) n m
open_answer (Err why) n m = refusal_answer why

unfoldable pub open_numbers : Result Record Refusal → List Float → List ℕ → List Float
open_numbers (Ok r) ns ms = opened_numbers (open_of r) ns ms
open_numbers (Err why) ns ms = ns

unfoldable pub open_marks : Result Record Refusal → List Float → List ℕ → List ℕ
open_marks (Ok r) ns ms = opened_marks (open_of r) ns ms
open_marks (Err why) ns ms = ms
