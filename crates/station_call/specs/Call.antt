-- Lines 3 to 6 of `station_windows`: the station, the start, the step and the number of samples. Definitions only.
use Rattle.std.specs.Prelude.{ℕ, cond, ◌&&◌, List, [], ◌++◌, Float, drop, None, Option, Some}
use Rattle.text.specs.Output.{bytes}
use Rattle.request_line.specs.Request.{begun}
use Rattle.station_text.specs.Words.{rest, first, whole_in, decimal_in, start_of, station_of}
use Rattle.station_text.specs.declared.Whole.{Whole}
use Rattle.station_text.specs.declared.Decimal.{Decimal}
use Rattle.station_text.specs.declared.Station as ts
use Rattle.station_text.specs.declared.Station.TheVariants as station
use Rattle.station_call.specs.declared.Place as ps
use Rattle.station_call.specs.declared.Place.TheVariants as place
use Rattle.station_call.specs.declared.Call as cs
use Rattle.instant.specs.declared.Instant.{Instant}
use Rattle.station_call.specs.declared.Samples.{Samples}

-- ── the station ──

-- x, y and z in km, Earth-fixed
abbrev pub fixed_from : ts.Station → ps.Place
fixed_from (station.At x y z) = place.Fixed x y z
fixed_from station.Unread = place.Unread

abbrev pub over : Float → Float → Float → Float → ps.Place
over latitude longitude height least =
    place.Over (record { latitude = record { 0 = latitude }; longitude = record { 0 = longitude }; height = record { 0 = height } }) (record { 0 = least })

-- the three decimals behind the latitude: longitude, height, least elevation
abbrev pub over_from : Float → ts.Station → ps.Place
over_from latitude (station.At longitude height least) = over latitude longitude height least
over_from latitude station.Unread = place.Unread

unfoldable pub geodetic_from : Decimal → ts.Station → ps.Place
geodetic_from latitude behind = cond latitude.good (over_from latitude.value behind) place.Unread

-- four decimals, one blank between them
unfoldable pub geodetic_of : List ℕ → ps.Place
geodetic_of s = geodetic_from (decimal_in (first s)) (station_of (rest s))

unfoldable pub place_of : List ℕ → ps.Place
place_of line = cond (begun (bytes "geodetic ") line) (geodetic_of (drop 9 line)) (fixed_from (station_of line))

-- ── the call ──

unfoldable pub call_of : List ℕ → List ℕ → List ℕ → List ℕ → cs.Call
call_of place start step count =
    record { place = place_of place; start = start_of start; step = whole_in step; count = whole_in count }

-- the samples of lines 4 to 6, where all three are read
abbrev pub sampled_from : Option Instant → ℕ → ℕ → Option Samples
sampled_from (Some t) step count = Some (record { start = t; step = step; count = count })
sampled_from None step count = None

unfoldable pub samples_from : Option Instant → Whole → Whole → Option Samples
samples_from t step count = cond (step.good && count.good) (sampled_from t step.value count.value) None

unfoldable pub samples_of : cs.Call → Option Samples
samples_of c = samples_from c.start c.step c.count

-- ── bad lines ──

abbrev pub place_fault : ps.Place → List ℕ
place_fault (place.Fixed x y z) = []
place_fault (place.Over g least) = []
place_fault place.Unread = bytes "line 3: no station\n"

abbrev pub start_fault : Option Instant → List ℕ
start_fault (Some t) = []
start_fault None = bytes "line 4: no start\n"

abbrev pub whole_fault : Whole → List ℕ → List ℕ
whole_fault n fault = cond n.good [] fault

-- nothing where every line has its form
unfoldable pub faults_text : cs.Call → List ℕ
faults_text c =
    place_fault c.place ++ (start_fault c.start
    ++ (whole_fault c.step (bytes "line 5: no step\n") ++ whole_fault c.count (bytes "line 6: no number of samples\n")))
