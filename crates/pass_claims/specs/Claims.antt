-- What is claimed of the passes of a satellite newly opened, and proved in proofs/Claims. Definitions only.
use Rattle.std.specs.Prelude.{ℕ, ◌+◌, ◌-◌, ◌*◌, ◌≤◌, ◌<◌, ◌≡◌, Bool, true, false, Float, Err, None, Ok, Option, Result, Some}
use Rattle.std.specs.Float.Ieee.{lt}
use Rattle.elementary.specs.Trig.{sin_of}
use Rattle.instant.specs.Quantity.{radians_of}
use Rattle.instant.specs.Calendar.{in_calendar}
use Rattle.geodetic.specs.declared.Geodetic.{Geodetic}
use Rattle.geodetic.specs.Geodetic.{site_of}
use Rattle.horizon.specs.Horizon.{nadir}
use Rattle.tle.specs.declared.Record.{Record}
use Rattle.opening.specs.declared.opening.Satellite.{Satellite}
use Rattle.opening.specs.Opening.{open_of}
use Rattle.passes.specs.declared.Pass.{Pass}
use Rattle.pass_edges.specs.Search.{sine_at}
use Rattle.passes.specs.Passes.{next_pass}

-- f is the sine of the satellite's elevation at an instant
abbrev pub above : (ℕ → Float) → Float → ℕ → Bool
above f least t = lt least (f t)

-- p is whether the satellite is above at an instant:
--   rises     at the rise it is and a microsecond before it is not, but for a pass that was above at the first sample
--   sets      at the set it is and a microsecond after it is not, but for a pass that was above at the last sample
--   highest   the highest point lies between them
pub record Refined (p : ℕ → Bool) (x : Pass) : Type 0 where
  pub rises : x.begun ≡ false → (p x.rise.0 ≡ true) × (p (x.rise.0 - 1) ≡ false)
  pub sets : x.still ≡ false → (p x.set.0 ≡ true) × (p (x.set.0 + 1) ≡ false)
  pub highest : (x.rise.0 ≤ x.highest.0) × (x.highest.0 ≤ x.set.0)

-- a call goes on at sample m of n from t on, a step of microseconds apart, with those that are left
pub record Onward (t step n next left : ℕ) : Type 0 where
  pub m : ℕ
  pub at : next ≡ t + m * step
  pub rest : left + m ≡ n

-- Of these samples:
--   before   none before the rise is above
--   onward   where the pass set, the next call goes on at one of them
--   tops     none that is above, of those before the next call's, is higher than the highest point. It is asked that the least sine is above -1: those of 0 to
--            90 degrees are, but of rounded sines that is not proved
pub record First (f : ℕ → Float) (least : Float) (t step n : ℕ) (x : Pass) : Type 0 where
  pub before : (i : ℕ) → t + i * step < x.rise.0 → above f least (t + i * step) ≡ false
  pub onward : x.still ≡ false → Onward t step n x.next.0 x.left
  pub tops : lt nadir least ≡ true → (i : ℕ) → above f least (t + i * step) ≡ true → t + i * step < x.next.0 → lt (f x.highest.0) (f (t + i * step)) ≡ false

-- of n samples from t on, a step of microseconds apart, none that the calendar has is above
abbrev pub NoneAbove : (ℕ → Bool) → ℕ → ℕ → ℕ → Type 0
NoneAbove p t step n = (i : ℕ) → i < n → in_calendar (t + i * step) ≡ true → p (t + i * step) ≡ false

abbrev pub Right : (ℕ → Float) → Float → ℕ → ℕ → ℕ → Result (Option Pass) ℕ → Type 0
Right f least t step n (Ok (Some x)) = Refined (above f least) x × First f least t step n x
Right f least t step n (Ok None) = NoneAbove (above f least) t step n
Right f least t step n (Err r) = Unit {0}

-- every answer for a satellite newly opened, by that satellite asked one instant alone (`opened_passes`)
abbrev pub OpenedPasses : Type 0
OpenedPasses =
    (r : Record) (s : Satellite) → open_of r ≡ Ok s
    → (g : Geodetic) (least : Float) (t step n : ℕ) → Right (sine_at (site_of g) s) (sin_of (radians_of least)) t (step * 1000000) n (next_pass s g least t step n)
