-- The lines that `ephemeris` prints: a header, and a line for each row. One separator throughout, a blank or a comma. Definitions only.
use Rattle.std.specs.Prelude.{ℕ, cond, List, [], ◌∷◌, ◌++◌, eqb, Float, Err, Ok, Result}
use Rattle.text.specs.Output.{bytes, decimal}
use Rattle.decimals.specs.Fixed.{fixed_text}
use Rattle.date_text.specs.Date.{instant_text}
use Rattle.instant.specs.declared.Instant.{Instant}
use Rattle.instant.specs.declared.MoveRefusal.{MoveRefusal}
use Rattle.instant.specs.declared.MoveRefusal.TheVariants as move_refusal
use Rattle.ephemeris_text.specs.declared.State.{State}

-- a cell behind its separator
abbrev pub cell : ℕ → List ℕ → List ℕ
cell sep text = (sep ∷ []) ++ text

unfoldable pub three_words : ℕ → List ℕ → List ℕ → List ℕ → List ℕ
three_words sep a b c = cell sep a ++ (cell sep b ++ cell sep c)

unfoldable pub state_names : ℕ → List ℕ
state_names sep =
    three_words sep (bytes "x_km") (bytes "y_km") (bytes "z_km") ++ three_words sep (bytes "vx_km_s") (bytes "vy_km_s") (bytes "vz_km_s")

unfoldable pub header_text : ℕ → List ℕ
header_text sep = bytes "date time" ++ (cell sep (bytes "refusal") ++ (state_names sep ++ (cell sep (bytes "strides") ++ (10 ∷ []))))

-- three numbers with so many places
unfoldable pub three_numbers : ℕ → ℕ → Float → Float → Float → List ℕ
three_numbers sep p x y z = cell sep (fixed_text p x) ++ (cell sep (fixed_text p y) ++ cell sep (fixed_text p z))

-- the position in km with six places, the velocity in km/s with nine
unfoldable pub state_text : ℕ → State → List ℕ
state_text sep s = three_numbers sep 6 s.x s.y s.z ++ three_numbers sep 9 s.vx s.vy s.vz

-- a refused row has neither
unfoldable pub no_state : ℕ → List ℕ
no_state sep = three_words sep (bytes "-") (bytes "-") (bytes "-") ++ three_words sep (bytes "-") (bytes "-") (bytes "-")

unfoldable pub values_text : ℕ → ℕ → State → List ℕ
values_text sep refusal s = cond (eqb refusal 0) (state_text sep s) (no_state sep)

-- the date and the time of day; a time that moves the epoch too far or out of the calendar has none
unfoldable pub when_text : Result Instant MoveRefusal → List ℕ
when_text (Ok t) = instant_text t.0
when_text (Err move_refusal.TooFar) = bytes "- -"
when_text (Err move_refusal.Outside) = bytes "- -"

unfoldable pub row_text : ℕ → Result Instant MoveRefusal → ℕ → State → ℕ → List ℕ
row_text sep when refusal s strides =
    when_text when ++ (cell sep (decimal refusal) ++ (values_text sep refusal s ++ (cell sep (decimal strides) ++ (10 ∷ []))))
