-- A record's fields as the numbers that sgp4init is handed: document 01, "Numbers the model rests on", and 002's twoline2rv (lines 1355-1374).
-- Definitions only.
use Rattle.std.specs.Prelude.{Float}
use Rattle.elementary.specs.Notation.{◌⊗◌, ◌⊘◌, dec, pi}
use Rattle.instant.specs.Quantity.{decimal_of, scaled_of, radians_of}
use Rattle.tle.specs.declared.Record.{Record}
use Rattle.tle.specs.declared.Scaled.{Scaled}
use Rattle.satellite.specs.declared.Elements.{Elements}

-- 1275: revolutions a day in one rad/min
unfoldable pub xpdotp : Float
xpdotp = dec 1440 0 ⊘ (dec 2 0 ⊗ pi)

-- B*: document 01's exponent field
unfoldable pub bstar_of : Scaled → Float
bstar_of b = scaled_of b.mantissa b.exponent

unfoldable pub elements_of : Record → Elements
elements_of r =
    record {
      bstar = bstar_of r.bstar;
      ecco = decimal_of r.eccentricity 7;
      argpo = radians_of (decimal_of r.perigee 4);
      inclo = radians_of (decimal_of r.inclination 4);
      mo = radians_of (decimal_of r.anomaly 4);
      no = decimal_of r.motion 8 ⊘ xpdotp;
      nodeo = radians_of (decimal_of r.node 4);
    }
