-- What is claimed of the definitions themselves. proofs/Theorems proves each. Definitions only.
use Rattle.std.specs.Prelude.{◌≡◌, ℕ, zero, suc, ◌+◌, ◌-◌, ◌*◌, ◌≤◌, ◌<◌, true, [], ◌∷◌, ◌++◌, length}
use Rattle.text.specs.Output.{places}
use Rattle.instant.specs.Calendar.{days_in, days_before, in_calendar}
use Rattle.date_text.specs.Date.{month_length, instant_text}

-- the days of the first k months of a year
unfoldable pub days_of_months : ℕ → ℕ → ℕ
days_of_months year zero = 0
days_of_months year (suc k) = days_of_months year k + month_length year (suc k)

-- twelve months are the year
abbrev pub WholeYear : Type 0
WholeYear = (year : ℕ) → days_of_months year 12 ≡ days_in year

-- The date and the time of day that are printed for t: each in its range, together t.
pub record Civil (t : ℕ) : Type 0 where
  pub year : ℕ
  pub month : ℕ
  pub day : ℕ
  pub hour : ℕ
  pub minute : ℕ
  pub second : ℕ
  pub micro : ℕ
  pub years : (1957 ≤ year) × (year ≤ 2056)
  pub months : (1 ≤ month) × (month ≤ 12)
  pub days : (1 ≤ day) × (day ≤ month_length year month)
  pub hours : hour < 24
  pub minutes : minute < 60
  pub seconds : second < 60
  pub micros : micro < 1000000
  pub together : (days_before (year - 1957) + days_of_months year (month - 1) + (day - 1)) * 86400000000 + (hour * 3600 + minute * 60 + second) * 1000000 + micro ≡ t
  pub text : instant_text t ≡
      (places 10 4 year ++ ((45 ∷ []) ++ (places 10 2 month ++ ((45 ∷ []) ++ places 10 2 day))))
      ++ ((32 ∷ []) ++ (places 10 2 hour ++ ((58 ∷ []) ++ (places 10 2 minute ++ ((58 ∷ []) ++ (places 10 2 second ++ ((46 ∷ []) ++ places 10 6 micro)))))))

abbrev pub RightDate : Type 0
RightDate = (t : ℕ) → in_calendar t ≡ true → Civil t

-- every instant of the calendar has a text of 26 bytes
abbrev pub Bytes26 : Type 0
Bytes26 = (t : ℕ) → in_calendar t ≡ true → length (instant_text t) ≡ 26
