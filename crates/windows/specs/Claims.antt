-- What is claimed of every call for windows, and proved in proofs/Claims. Definitions only.
use Rattle.std.specs.Prelude.{ℕ, ◌≤◌, ◌≡◌, Bool, true, false, List, [], ◌∷◌, map, length}
use Rattle.std.proofs.Math.IntN.{sub_ℕ}
use Rattle.instant.specs.Calendar.{in_calendar}
use Rattle.runs.specs.Words.{ClaimOf}
use Rattle.sgp4.specs.declared.Row.{Row}
use Rattle.sgp4.specs.Row.{refused_row}
use Rattle.opening.specs.declared.opening.Satellite.{Satellite}
use Rattle.requests.specs.Request.{answered}
use Rattle.requests.specs.Lists.{rows_from}
use Rattle.windows.specs.Windows.{Call, call_refusal, instants_of, times_of, sampled_of, samples_of, windows_of}
use Rattle.windows.specs.Answer.{windowed}

-- a call that is not refused, with any rows: every window's samples are visible, the ones next to it are not, every visible sample lies in exactly one
-- window, no other in any, and they are in time order (`in_words_lem`; specs/Words of crate runs)
abbrev pub InWords : Type 0
InWords = (c : Call) (rs : List Row) → call_refusal c ≡ 0 → ClaimOf (samples_of c.station (instants_of c) rs)

-- its windows have room in the places lent (`fits_places`)
abbrev pub FitsPlaces : Type 0
FitsPlaces = (c : Call) (rs : List Row) → call_refusal c ≡ 0 → length (windows_of c rs) ≤ c.places

-- no call has more than 512 windows (`few_windows`)
abbrev pub FewWindows : Type 0
FewWindows = (c : Call) (rs : List Row) → length (windows_of c rs) ≤ 512

-- each sample's row: 6 outside the calendar, else what a request gives there: 9 where it is too far from the epoch e, else the row
abbrev pub row_by : Bool → ℕ → ℕ → Satellite → (Satellite → List Row) → List Row
row_by true e x s go = (answered s (sub_ℕ x e)).row ∷ go (answered s (sub_ℕ x e)).satellite
row_by false e x s go = refused_row 6 ∷ go s

abbrev pub sample_rows : ℕ → Satellite → List ℕ → List Row
sample_rows e s [] = []
sample_rows e s (x ∷ xs) = row_by (in_calendar x) e x s (λ s. sample_rows e s xs)

-- (`row_by_row`)
abbrev pub RowByRow : Type 0
RowByRow = (e : ℕ) (s : Satellite) (xs : List ℕ) → map (λ r. r.row) (sampled_of xs (rows_from s (times_of e xs))) ≡ sample_rows e s xs

-- a call that is refused takes no strides, gives no windows and leaves the satellite (`refused_nothing`)
abbrev pub RefusedNothing : Type 0
RefusedNothing =
    (s : Satellite) (c : Call) → (call_refusal c ≡ 0 → ⊥)
    → windowed s c ≡ record { refusal = call_refusal c; windows = 0; strides = record { 0 = 0 }; satellite = s }
