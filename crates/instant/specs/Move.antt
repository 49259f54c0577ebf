-- Moving an instant, document 01, "Instants" and refusals 9 and 6. Definitions only.
use Rattle.std.specs.Prelude.{List, [], ◌∷◌, ℕ, suc, ◌+◌, ◌-◌, ◌*◌, Bool, cond, ℤ, pos, negsuc, nat_abs, leb, Err, Ok, Result}
use Rattle.instant.specs.Calendar.{day_micros, in_calendar}
use Rattle.instant.specs.declared.Instant.{Instant}
use Rattle.instant.specs.declared.MoveRefusal.{MoveRefusal}
use Rattle.instant.specs.declared.MoveRefusal.TheVariants as move_refusal

-- "at most 3,652 days either way"
unfoldable pub span_limit : ℕ
span_limit = 3652 * day_micros

unfoldable pub in_span : ℤ → Bool
in_span span = leb (nat_abs span) span_limit

unfoldable pub landed : ℕ → Result Instant MoveRefusal
landed t = cond (in_calendar t) (Ok (record { 0 = t })) (Err move_refusal.Outside)

-- t + span, where it is 0 or more
unfoldable pub reached : ℕ → ℤ → Result Instant MoveRefusal
reached t (pos n) = landed (t + n)
reached t (negsuc n) = cond (leb (suc n) t) (landed (t - suc n)) (Err move_refusal.Outside)

-- "A move: 9, 6"
unfoldable pub move_of : ℕ → ℤ → Result Instant MoveRefusal
move_of t span = cond (in_span span) (cond (in_calendar t) (reached t span) (Err move_refusal.Outside)) (Err move_refusal.TooFar)

-- document 01's refusal number of each case, 0 where the move is made
unfoldable pub refusal : Result Instant MoveRefusal → ℕ
refusal (Ok t) = 0
refusal (Err move_refusal.TooFar) = 9
refusal (Err move_refusal.Outside) = 6

-- what comes back: the instant reached, and with a refusal nothing
unfoldable pub values : Result Instant MoveRefusal → List ℕ
values (Ok t) = t.0 ∷ []
values (Err move_refusal.TooFar) = []
values (Err move_refusal.Outside) = []
