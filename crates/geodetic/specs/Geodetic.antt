-- A station by geodetic latitude, longitude and height above the WGS-84 ellipsoid: its Earth-fixed position, and the directions east, north and up there.
-- Definitions only. Up is the ellipsoid's normal, and not the direction of the position.
use Rattle.std.specs.Prelude.{Bool, ◌&&◌, List, [], ◌∷◌, Float}
use Rattle.std.specs.Float.Ieee.{neg, le}
use Rattle.elementary.specs.Notation.{◌⊕◌, ◌⊖◌, ◌⊗◌, ◌⊘◌, dec}
use Rattle.elementary.specs.Root.{sqrt_of}
use Rattle.elementary.specs.Trig.{sin_of, cos_of}
use Rattle.instant.specs.Quantity.{radians_of}
use Rattle.geodetic.specs.declared.Geodetic as gs
use Rattle.geodetic.specs.declared.Site as ss

-- ── the ellipsoid: equatorial radius 6378.137 km, flattening 1/298.257223563 ──

abbrev pub flattening : Float
flattening = dec 1 0 ⊘ dec 298257223563 9

-- the square of the eccentricity, f (2 - f)
unfoldable pub eccentricity2 : Float
eccentricity2 = flattening ⊗ (dec 2 0 ⊖ flattening)

-- the radius of curvature in the prime vertical, in km, at a latitude with this sine: a / root(1 - e² sin²)
unfoldable pub prime_vertical : Float → Float
prime_vertical s = dec 6378137 3 ⊘ sqrt_of (dec 1 0 ⊖ eccentricity2 ⊗ s ⊗ s)

-- ── the station: sine and cosine of latitude, then of longitude; height in km ──

-- ((N + h) cos φ cos λ, (N + h) cos φ sin λ, (N (1 - e²) + h) sin φ)
unfoldable pub position_of : Float → Float → Float → Float → Float → List Float
position_of sφ cφ sλ cλ h =
    let n = prime_vertical sφ in
    ((n ⊕ h) ⊗ cφ ⊗ cλ) ∷ ((n ⊕ h) ⊗ cφ ⊗ sλ) ∷ ((n ⊗ (dec 1 0 ⊖ eccentricity2) ⊕ h) ⊗ sφ) ∷ []

unfoldable pub placed : Float → Float → Float → Float → Float → ss.Site
placed sφ cφ sλ cλ h =
    record {
      position = position_of sφ cφ sλ cλ h;
      east = neg sλ ∷ cλ ∷ dec 0 0 ∷ [];
      north = neg (sφ ⊗ cλ) ∷ neg (sφ ⊗ sλ) ∷ cφ ∷ [];
      up = (cφ ⊗ cλ) ∷ (cφ ⊗ sλ) ∷ sφ ∷ [];
    }

-- degrees, degrees and metres
unfoldable pub site_of : gs.Geodetic → ss.Site
site_of g =
    let φ = radians_of g.latitude.0 in
    let λ₀ = radians_of g.longitude.0 in
    placed (sin_of φ) (cos_of φ) (sin_of λ₀) (cos_of λ₀) (g.height.0 ⊘ dec 1000 0)

-- ── which are stations ──

-- from lo to hi; a NaN is not
abbrev pub between : Float → Float → Float → Bool
between lo x hi = le lo x && le x hi

-- latitude from -90 to 90 and longitude from -180 to 360 degrees, height from -10,000 to 100,000 m
unfoldable pub on_earth : gs.Geodetic → Bool
on_earth g =
    between (neg (dec 90 0)) g.latitude.0 (dec 90 0)
    && between (neg (dec 180 0)) g.longitude.0 (dec 360 0)
    && between (neg (dec 10000 0)) g.height.0 (dec 100000 0)
