-- The next pass of a satellite over a station: refusals, and the answer. Definitions only.
use Rattle.std.specs.Prelude.{ℕ, ◌*◌, Bool, true, false, cond, not, ◌&&◌, ◌||◌, eqb, ltb, Float, Err, None, Ok, Option, Result, Some}
use Rattle.elementary.specs.Notation.{dec}
use Rattle.elementary.specs.Trig.{sin_of}
use Rattle.instant.specs.Quantity.{radians_of}
use Rattle.geodetic.specs.declared.Geodetic.{Geodetic}
use Rattle.geodetic.specs.declared.Site.{Site}
use Rattle.geodetic.specs.Geodetic.{between, on_earth, site_of}
use Rattle.opening.specs.declared.opening.Satellite.{Satellite}
use Rattle.sightings.specs.Sightings.{seen_at}
use Rattle.passes.specs.declared.Scan.{Scan}
use Rattle.passes.specs.declared.Pass.{Pass}
use Rattle.pass_edges.specs.Search.{sine_at, above_at}
use Rattle.pass_edges.specs.Search.{until, left_over, edge, summit}
use Rattle.passes.specs.Samples.{begin, sampled, stops}

-- ── refusals, before any sample ──

-- "25": latitude, longitude or height of no station, or a least elevation that is not from 0 to 90 degrees. "26": a step of 0, or of more than a day
unfoldable pub pass_refusal : Geodetic → Float → ℕ → ℕ
pass_refusal g least step =
    cond (not (on_earth g && between (dec 0 0) least (dec 90 0))) 25 (cond (eqb step 0 || ltb 86400 step) 26 0)

-- ── the pass ──

-- at most n samples from t, a step of microseconds apart, to the first that is above, or not above
unfoldable pub scanned : Site → Float → Bool → ℕ → ℕ → Satellite → ℕ → Scan
scanned site least wanted step n s t = until stops (sampled (seen_at site) least wanted step) n (begin s t)

unfoldable pub scans_left : Site → Float → Bool → ℕ → ℕ → Satellite → ℕ → ℕ
scans_left site least wanted step n s t = left_over stops (sampled (seen_at site) least wanted step) n (begin s t)

-- the instant of the sample that ended the pass, or of its last one
abbrev pub after : Scan → ℕ
after x = cond x.found x.next x.last

-- the samples that the next call has
abbrev pub left_of : Scan → ℕ → ℕ
left_of x left = cond x.found left 0

-- up: the scan to the first sample that is above. down: the one from there to the first that is not, with the samples left. Each edge lies between two
-- samples, and at a sample where the pass is above at the first of all or at the last
unfoldable pub pass_of : Site → Float → ℕ → Scan → Scan → ℕ → Pass
pass_of site least step up down left =
    let s = up.satellite in
    let rise = edge (above_at site least s) up.last up.next in
    let set = edge (above_at site least s) (after down) down.last in
    record {
      rise = record { 0 = rise };
      highest = record { 0 = summit (sine_at site s) down.best rise set step };
      set = record { 0 = set };
      begun = eqb up.last up.next;
      still = not down.found;
      next = record { 0 = down.next };
      left = left_of down left;
    }

-- a step of microseconds
unfoldable pub searched : Site → Float → ℕ → ℕ → Satellite → ℕ → Result (Option Pass) ℕ
searched site least step n s t =
    let up = scanned site least true step n s t in
    let k = scans_left site least true step n s t in
    let down = scanned site least false step k up.satellite up.next in
    cond up.found
    (Ok (Some (pass_of site least step up down (scans_left site least false step k up.satellite up.next))))
    (Ok None)

-- the first pass among n samples from t, a step of seconds apart
unfoldable pub next_pass : Satellite → Geodetic → Float → ℕ → ℕ → ℕ → Result (Option Pass) ℕ
next_pass s g least t step n =
    let r = pass_refusal g least step in
    cond (eqb r 0) (searched (site_of g) (sin_of (radians_of least)) (step * 1000000) n s t) (Err r)
