-- The line of a window: its first and its last instant, each as year, day and microseconds, and how many samples it has. Definitions only.
use Rattle.std.specs.Prelude.{ℕ, ◌+◌, ◌-◌, ◌*◌, ◌/◌, List, [], ◌∷◌, ◌++◌, cond, ltb, eqb, None, Option, Some}
use Rattle.text.specs.Output.{bytes, decimal}
use Rattle.instant.specs.Calendar.{date_of}
use Rattle.instant.specs.declared.Date.{Date}

unfoldable pub dates_text : Date → List ℕ
dates_text d = decimal d.year ++ ((32 ∷ []) ++ (decimal d.day ++ ((32 ∷ []) ++ decimal d.micros)))

-- an instant outside the calendar has no date
unfoldable pub date_text : Option Date → List ℕ
date_text (Some d) = dates_text d
date_text None = bytes "-"

unfoldable pub window_text : ℕ → ℕ → ℕ → List ℕ
window_text first last samples =
    bytes "window " ++ (date_text (date_of first) ++ ((32 ∷ []) ++ (date_text (date_of last) ++ ((32 ∷ []) ++ (decimal samples ++ (10 ∷ []))))))

-- the samples from the first to the last, a lawful step of seconds apart
unfoldable pub samples_in : ℕ → ℕ → ℕ → ℕ
samples_in first last step =
    cond (eqb step 0) 0 (cond (ltb 86400 step) 0 (cond (ltb last first) 0 ((last - first) / (step * 1000000) + 1)))
