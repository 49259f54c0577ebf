-- Document 02, wish 10: a call for windows, its refusals, its samples, their rows, and the windows of those. Definitions only.
use Rattle.std.specs.Prelude.{ℕ, zero, suc, ◌+◌, ◌*◌, ◌/◌, Bool, true, false, cond, ◌&&◌, ◌||◌, not, List, [], ◌∷◌, map, eqb, ltb, ℤ, Float}
use Rattle.std.proofs.Math.IntN.{sub_ℕ}
use Rattle.std.specs.Float.Ieee.{eq}
use Rattle.elementary.specs.Notation.{dec, finite}
use Rattle.instant.specs.Calendar.{in_calendar}
use Rattle.earth_fixed.specs.Frame.{at, seen_of}
use Rattle.runs.specs.Runs.{Sample, Window, windows_in}
use Rattle.sgp4.specs.declared.Row.{Row}
use Rattle.sgp4.specs.Row.{refused_row}

-- the station's Earth-fixed position in kilometres, the start, a step in whole seconds, the number of samples, the places lent for windows
pub record Call : Type 0 where
  pub station : List Float
  pub start : ℕ
  pub step : ℕ
  pub samples : ℕ
  pub places : ℕ

-- ── refusals, all before any sample ──

abbrev pub is_zero : Float → Bool
is_zero x = eq x (dec 0 0)

-- "25 station zero or not finite": three zeros, of either sign
abbrev pub bad_station : List Float → Bool
bad_station p =
    is_zero (at p 0) && is_zero (at p 1) && is_zero (at p 2) || not (finite (at p 0) && finite (at p 1) && finite (at p 2))

-- "17 fewer places for windows than half the samples, rounded up"
unfoldable pub few_places : ℕ → ℕ → Bool
few_places samples places = ltb places ((samples + 1) / 2)

-- "25 .., 26 .., 18 .., 17 .., in that order"; 0 where the call is not refused. `short` is whether lent memory is too short
unfoldable pub refusal_of : List Float → ℕ → ℕ → Bool → ℕ
refusal_of station step samples short =
    cond (bad_station station) 25 (cond (eqb step 0 || ltb 86400 step) 26 (cond (ltb 1024 samples) 18 (cond short 17 0)))

abbrev pub call_refusal : Call → ℕ
call_refusal c = refusal_of c.station c.step c.samples (few_places c.samples c.places)

-- ── samples ──

-- the instant of sample i, a whole number of any size
abbrev pub sample_micros : ℕ → ℕ → ℕ → ℕ
sample_micros start step i = start + i * step * 1000000

-- the instants of n samples, from the i-th on
abbrev pub instants_from : ℕ → ℕ → ℕ → ℕ → List ℕ
instants_from start step i zero = []
instants_from start step i (suc n) = sample_micros start step i ∷ instants_from start step (suc i) n

-- "a refused one has no rows"
abbrev pub instants_of : Call → List ℕ
instants_of c = cond (eqb (call_refusal c) 0) (instants_from c.start c.step 0 c.samples) []

-- the times since the epoch e that are put to the satellite: those of the samples in the calendar. "a sample outside the calendar, the start
-- included, is a row refused with 6", and has no time here: it takes no strides, leaves the saved position and is not compared
abbrev pub keep_time : Bool → ℤ → List ℤ → List ℤ
keep_time true t ts = t ∷ ts
keep_time false t ts = ts

abbrev pub times_of : ℕ → List ℕ → List ℤ
times_of e [] = []
times_of e (x ∷ xs) = keep_time (in_calendar x) (sub_ℕ x e) (times_of e xs)

-- ── windows ──

-- a sample with its row: the next of the rows given for those in the calendar, and refusal 6 for the others
pub record Sampled : Type 0 where
  pub instant : ℕ
  pub row : Row

abbrev pub next : ℕ → List Row → Sampled
next x [] = record { instant = x; row = refused_row 6 }
next x (r ∷ rs) = record { instant = x; row = r }

abbrev pub rest : List Row → List Row
rest [] = []
rest (r ∷ rs) = rs

abbrev pub next_if : Bool → ℕ → List Row → Sampled
next_if true x rs = next x rs
next_if false x rs = record { instant = x; row = refused_row 6 }

abbrev pub rest_if : Bool → List Row → List Row
rest_if true rs = rest rs
rest_if false rs = rs

abbrev pub sampled_of : List ℕ → List Row → List Sampled
sampled_of [] rs = []
sampled_of (x ∷ xs) rs = next_if (in_calendar x) x rs ∷ sampled_of xs (rest_if (in_calendar x) rs)

-- "turn each state into the Earth-fixed frame ..": an answered row whose position is above the station. "A refused sample ends a run"
unfoldable pub sees : List Float → ℕ → ℕ → Float → Float → Float → Bool
sees station t refusal x y z = eqb refusal 0 && seen_of station t (x ∷ y ∷ z ∷ [])

abbrev pub sight : List Float → Sampled → Sample
sight station s =
    record { instant = s.instant; visible = sees station s.instant s.row.refusal s.row.x s.row.y s.row.z }

abbrev pub samples_of : List Float → List ℕ → List Row → List Sample
samples_of station xs rs = map (sight station) (sampled_of xs rs)

abbrev pub windows_of : Call → List Row → List Window
windows_of c rs = windows_in (samples_of c.station (instants_of c) rs)
