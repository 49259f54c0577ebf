-- "Time since epoch is a signed count of microseconds", document 01, "Instants". Definitions only.
use Rattle.std.specs.Prelude.{List, [], ◌∷◌, ℕ, cond, ◌&&◌, ℤ, pos, ◌-ℤ◌, None, Option, Some}
use Rattle.instant.specs.Calendar.{in_calendar}
use Rattle.instant.specs.declared.Microseconds.{Microseconds}

-- t less the epoch; refusal 6 where either is outside 1957-2056
unfoldable pub since_of : ℕ → ℕ → Option Microseconds
since_of t epoch = cond (in_calendar t && in_calendar epoch) (Some (record { 0 = pos t -ℤ pos epoch })) None

-- document 01's refusal number of each case, 0 where there is a time, and what comes back: with a refusal nothing
unfoldable pub elapsed_refusal : Option Microseconds → ℕ
elapsed_refusal (Some z) = 0
elapsed_refusal None = 6

unfoldable pub elapsed_values : Option Microseconds → List ℤ
elapsed_values (Some z) = z.0 ∷ []
elapsed_values None = []
