-- How a pass is found among samples. Definitions only. `look` is what a satellite shows at an instant.
use Rattle.std.specs.Prelude.{ℕ, ◌+◌, Bool, true, false, cond, not, Float}
use Rattle.std.specs.Float.Ieee.{lt}
use Rattle.instant.specs.Calendar.{in_calendar}
use Rattle.opening.specs.declared.opening.Satellite.{Satellite}
use Rattle.horizon.specs.Horizon.{nadir}
use Rattle.sightings.specs.declared.Seen.{Seen}
use Rattle.pass_edges.specs.declared.Best.{Best}
use Rattle.passes.specs.declared.Scan.{Scan}

-- above, or where `wanted` is false, not above
unfoldable pub hits : Float → Bool → Float → Bool
hits least wanted sine = cond wanted (lt least sine) (not (lt least sine))

-- of equal ones the first
unfoldable pub higher : Best → ℕ → Float → Best
higher b t sine = cond (lt b.sine sine) (record { at = t; sine = sine }) b

-- the samples begin at t; none was asked yet
unfoldable pub begin : Satellite → ℕ → Scan
begin s t = record { stop = false; found = false; last = t; next = t; best = record { at = t; sine = nadir }; satellite = s }

-- the next sample is what is wanted: the satellite stays as the one before left it
unfoldable pub stopped : Bool → Scan → Scan
stopped found x =
    record { stop = true; found = found; last = x.last; next = x.next; best = x.best; satellite = x.satellite }

-- it is not: the one after it is the next
unfoldable pub passed : ℕ → Scan → Seen → Scan
passed step x y =
    record {
      stop = false;
      found = false;
      last = x.next;
      next = x.next + step;
      best = higher x.best x.next y.sine;
      satellite = y.satellite;
    }

unfoldable pub judged : Float → Bool → ℕ → Scan → Seen → Scan
judged least wanted step x y = cond (hits least wanted y.sine) (stopped true x) (passed step x y)

-- one sample; they end with the calendar
unfoldable pub sampled : (Satellite → ℕ → Seen) → Float → Bool → ℕ → Scan → Scan
sampled look least wanted step x =
    cond (in_calendar x.next) (judged least wanted step x (look x.satellite x.next)) (stopped false x)

abbrev pub stops : Scan → Bool
stops x = x.stop
