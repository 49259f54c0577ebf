-- The lines of the passes over a station. Definitions only.
use Rattle.std.specs.Prelude.{ℕ, List, Err, None, Ok, Option, Result, Some}
use Rattle.text.specs.Output.{bytes, decimal, line}
use Rattle.geodetic.specs.declared.Geodetic.{Geodetic}
use Rattle.geodetic.specs.Geodetic.{site_of}
use Rattle.opening.specs.declared.opening.Satellite.{Satellite}
use Rattle.sightings.specs.Sightings.{look_at}
use Rattle.passes.specs.declared.Pass.{Pass}
use Rattle.pass_text.specs.Print.{pass_text}

-- the azimuth at the rise and at the set, the elevation at the highest point
unfoldable pub found_text : Satellite → Geodetic → Pass → List ℕ
found_text s g p =
    let look = look_at (site_of g) s in
    pass_text p.begun p.rise.0 (look p.rise.0).azimuth.0 p.highest.0 (look p.highest.0).elevation.0
    p.still p.set.0 (look p.set.0).azimuth.0

-- the line of an answer behind so many passes
abbrev pub passing_text : Satellite → Geodetic → ℕ → Result (Option Pass) ℕ → List ℕ
passing_text s g count (Ok (Some p)) = found_text s g p
passing_text s g count (Ok None) = line (bytes "passes ") (decimal count)
passing_text s g count (Err r) = line (bytes "refused ") (decimal r)
