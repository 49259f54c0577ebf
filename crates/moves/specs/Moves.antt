-- Document 02, wish 12: moves of an instant one after the other. Definitions only.
-- `move_of` of instant is what the contract of `move_by` equates its answer with.
use Rattle.std.specs.Prelude.{ℕ, ◌≡◌, true, ℤ, pos, neg_ℤ, ◌+ℤ◌, Err, Ok, Result}
use Rattle.instant.specs.Calendar.{in_calendar}
use Rattle.instant.specs.Move.{in_span, move_of}
use Rattle.instant.specs.declared.Instant.{Instant}
use Rattle.instant.specs.declared.MoveRefusal.{MoveRefusal}
use Rattle.instant.specs.declared.MoveRefusal.TheVariants as move_refusal

abbrev pub to : ℕ → Result Instant MoveRefusal
to u = Ok (record { 0 = u })

-- the instant reached, handed to a second move; a refusal is passed up
abbrev pub then_by : Result Instant MoveRefusal → ℤ → Result Instant MoveRefusal
then_by (Ok u) y = move_of u.0 y
then_by (Err why) y = Err why

-- "each span .. and the instants reached lie in range": the span x leads from the instant t to the instant u
pub record Leads (t : ℕ) (x : ℤ) (u : ℕ) : Type 0 where
  pub start : in_calendar t ≡ true
  pub span : in_span x ≡ true
  pub sum : pos t +ℤ x ≡ pos u
  pub reached : in_calendar u ≡ true

-- What two moves answer: the second where the first has led to; where the spans, "their sum and the instants reached lie in range", what one move by the sum does
pub record Twice (t : ℕ) (x y : ℤ) (r : Result Instant MoveRefusal) : Type 0 where
  pub is : r ≡ then_by (move_of t x) y
  pub once : (u v : ℕ) → Leads t x u → Leads u y v → in_span (x +ℤ y) ≡ true → (r ≡ move_of t (x +ℤ y)) × (r ≡ to v)

-- What a move there and back answers: in range, the start
pub record Back (t : ℕ) (x : ℤ) (r : Result Instant MoveRefusal) : Type 0 where
  pub is : r ≡ then_by (move_of t x) (neg_ℤ x)
  pub home : (u : ℕ) → Leads t x u → r ≡ to t
