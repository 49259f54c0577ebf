-- A call for windows: what it answers, and every place of the two rooms lent afterwards. Definitions only.
use Rattle.std.specs.Prelude.{ℕ, ◌≤◌, ◌<◌, min, ◌≡◌, ◌⊎◌, List, map, length, take, ℤ, Float}
use Rattle.opening.specs.declared.opening.Satellite.{Satellite}
use Rattle.runs.specs.Runs.{Window, windows_in}
use Rattle.requests.specs.Lists.{over, rows_from, strides_from, satellite_from}
use Rattle.windows.specs.declared.Looked.{Looked}
use Rattle.windows.specs.declared.WindowsAnswer.{WindowsAnswer}
use Rattle.windows.specs.Windows.{Call, call_refusal, instants_from, instants_of, times_of, samples_of, windows_of}

-- two rooms are lent: the places for windows are those of the shorter
abbrev pub call_of : List Float → ℕ → ℕ → ℕ → ℕ → ℕ → Call
call_of station start step samples a b = record { station = station; start = start; step = step; samples = samples; places = min a b }

-- ── the answer ──

-- the times of a call's samples, since the epoch that the satellite keeps
abbrev pub call_times : Satellite → Call → List ℤ
call_times s c = times_of s.model.epoch.0 (instants_of c)

-- the windows that the call gives, from the rows of the satellite as it is handed in
abbrev pub windows_at : Satellite → Call → List Window
windows_at s c = windows_of c (rows_from s (call_times s c))

abbrev pub windowed : Satellite → Call → WindowsAnswer
windowed s c =
    let ts = call_times s c in
    record {
      refusal = call_refusal c;
      windows = length (windows_at s c);
      strides = record { 0 = strides_from s ts };
      satellite = satellite_from s ts;
    }

pub record WindowsPost (s : Satellite) (c : Call) (a b : List ℕ) (r : WindowsAnswer) (a' b' : List ℕ) : Type 0 where
  pub answer : r ≡ windowed s c
  pub firsts : a' ≡ over (map (λ w. w.first) (windows_at s c)) a
  pub lasts : b' ≡ over (map (λ w. w.last) (windows_at s c)) b

-- ── on the way ──

-- the times of the samples inside the calendar, at the front of a room: k of them
pub record Times (e start step n k : ℕ) (ts : List ℤ) : Type 0 where
  pub upto : k ≤ n
  pub taken : take k ts ≡ times_of e (instants_from start step 0 n)
  pub inside : (k ≡ 0) ⊎ (start < 3155760000000000)

-- the samples at the instants xs, put to the satellite
abbrev pub windows_there : Satellite → ℕ → List Float → List ℕ → List Window
windows_there s e station xs = windows_in (samples_of station xs (rows_from s (times_of e xs)))

pub record Looks (s : Satellite) (e : ℕ) (station : List Float) (xs : List ℕ) (a b : List ℕ) (r : Looked) (a' b' : List ℕ) : Type 0 where
  pub count : r.windows ≡ length (windows_there s e station xs)
  pub strides : r.strides.0 ≡ strides_from s (times_of e xs)
  pub held : r.satellite ≡ satellite_from s (times_of e xs)
  pub firsts : a' ≡ over (map (λ w. w.first) (windows_there s e station xs)) a
  pub lasts : b' ≡ over (map (λ w. w.last) (windows_there s e station xs)) b
