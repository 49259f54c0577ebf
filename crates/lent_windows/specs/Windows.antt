-- A call for windows put to a satellite in memory that is lent: what `windows` gives for the satellite that lies there, and what is left in memory.
-- Definitions only.
use Rattle.std.specs.Prelude.{ℕ, ◌≡◌, Bool, true, cond, List, [], ◌∷◌, map, length, Float}
use Rattle.earth_fixed.specs.Frame.{at}
use Rattle.opening.specs.declared.opening.Satellite.{Satellite}
use Rattle.requests.specs.Lists.{over}
use Rattle.windows.specs.declared.WindowsAnswer.{WindowsAnswer}
use Rattle.windows.specs.Windows.{Call, refusal_of}
use Rattle.windows.specs.Answer.{call_of, windows_at, windowed}
use Rattle.storage.specs.Storage.{too_short, satellite_of}
use Rattle.answers.specs.Answer.{answer}
use Rattle.lent_requests.specs.Requests.{saved_numbers, saved_marks}

-- a station lent with fewer than three elements is not finite; what lies past the third is not looked at
abbrev pub station_of : List Float → List Float
station_of v = at v 0 ∷ at v 1 ∷ at v 2 ∷ []

abbrev pub windows_answer : WindowsAnswer → ℕ
windows_answer a = answer a.refusal 0 a.windows a.strides.0

-- the answer, and every element of the memory afterwards, for the call c to the satellite s in memory. Memory that is too short for a satellite is refusal
-- 17, in its place; a call refused writes nothing
pub record Windowed (short : Bool) (s : Satellite) (c : Call) (ns : List Float) (ms : List ℕ) (a b : List ℕ) (r : ℕ) (ns' : List Float) (ms' a' b' : List ℕ) : Type 0 where
  pub answered : r ≡ cond short (answer (refusal_of c.station c.step c.samples true) 0 0 0) (windows_answer (windowed s c))
  pub numbers : ns' ≡ cond short ns (saved_numbers (windowed s c).refusal (windowed s c).satellite.place ns ms)
  pub marks : ms' ≡ cond short ms (saved_marks (windowed s c).refusal (windowed s c).satellite.place ns ms)
  pub firsts : a' ≡ cond short a (over (map (λ w. w.first) (windows_at s c)) a)
  pub lasts : b' ≡ cond short b (over (map (λ w. w.last) (windows_at s c)) b)

abbrev pub WindowsPost : List Float → List ℕ → List Float → ℕ → ℕ → ℕ → List ℕ → List ℕ → ℕ → List Float → List ℕ → List ℕ → List ℕ → Type 0
WindowsPost ns ms station start step samples a b =
    Windowed (too_short (length ns) (length ms)) (satellite_of ns ms) (call_of (station_of station) start step samples (length a) (length b)) ns ms a b
