-- What moves come to, for every instant and every span. Proved in proofs/Moves.antt.
use Rattle.std.specs.Prelude.{ℕ, ◌≡◌, true, false, ℤ, pos, neg_ℤ, ◌+ℤ◌, Err}
use Rattle.instant.specs.Calendar.{in_calendar}
use Rattle.instant.specs.Move.{in_span, move_of}
use Rattle.instant.specs.declared.MoveRefusal.TheVariants as move_refusal
use Rattle.moves.specs.Moves.{to, then_by, Leads}

--   made     a move is made where start, span and instant reached lie in range, and nowhere else
--   nothing  "moving by nothing changes nothing"
--   twice    "moving by one span and then another is moving by their sum"
--   back     "moving there and back returns to the start"
pub record Shifts : Type 0 where
  pub made : (t : ℕ) (x : ℤ) (u : ℕ) → (Leads t x u → move_of t x ≡ to u) × (move_of t x ≡ to u → Leads t x u)
  pub nothing : (t : ℕ) → in_calendar t ≡ true → move_of t (pos 0) ≡ to t
  pub twice : (t u v : ℕ) (x y : ℤ) → Leads t x u → Leads u y v → in_span (x +ℤ y) ≡ true → (then_by (move_of t x) y ≡ move_of t (x +ℤ y)) × (move_of t (x +ℤ y) ≡ to v)
  pub back : (t u : ℕ) (x : ℤ) → Leads t x u → then_by (move_of t x) (neg_ℤ x) ≡ to t

-- Outside the premise, whatever one move by the sum would answer:
--   first_too_far   the first span beyond 3,652 days: 9
--   start_outside   the start outside the calendar: 6
--   middle_outside  the first move leads to no instant of the calendar: 6, whatever the second span
--   second_too_far  the second span beyond 3,652 days: 9
--   end_outside     the second move leads to no instant of the calendar: 6
pub record Refused : Type 0 where
  pub first_too_far : (t : ℕ) (x y : ℤ) → in_span x ≡ false → then_by (move_of t x) y ≡ Err move_refusal.TooFar
  pub start_outside : (t : ℕ) (x y : ℤ) → in_span x ≡ true → in_calendar t ≡ false → then_by (move_of t x) y ≡ Err move_refusal.Outside
  pub middle_outside : (t : ℕ) (x y : ℤ) → in_span x ≡ true → ((u : ℕ) → Leads t x u → ⊥) → then_by (move_of t x) y ≡ Err move_refusal.Outside
  pub second_too_far : (t u : ℕ) (x y : ℤ) → Leads t x u → in_span y ≡ false → then_by (move_of t x) y ≡ Err move_refusal.TooFar
  pub end_outside : (t u : ℕ) (x y : ℤ) → Leads t x u → in_span y ≡ true → ((v : ℕ) → Leads u y v → ⊥) → then_by (move_of t x) y ≡ Err move_refusal.Outside
