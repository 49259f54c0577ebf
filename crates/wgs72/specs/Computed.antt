-- What sgp4init and sgp4 compute anew at each call and is always the same. Definitions only.
use Rattle.std.specs.Prelude.{Float}
use Rattle.elementary.specs.Notation.{◌⊕◌, ◌⊖◌, ◌⊗◌, ◌⊘◌, dec, pi}
use Rattle.elementary.specs.Trig.{cos_of}
use Rattle.wgs72.specs.Getgravconst.{radiusearthkm, xke}

-- sgp4init 2980, sgp4 3345: the divisor at an inclination of 180 degrees. It is 0.0: the cosine rounds to -1.
unfoldable pub temp4 : Float
temp4 = dec 1 0 ⊕ cos_of (pi ⊖ dec 1 9)

-- sgp4init 3029
unfoldable pub ss : Float
ss = dec 78 0 ⊘ radiusearthkm ⊕ dec 1 0

-- sgp4init 3030: pow(((120.0 - 78.0) / radiusearthkm), 4)
unfoldable pub qzms2t : Float
qzms2t = let x = (dec 120 0 ⊖ dec 78 0) ⊘ radiusearthkm in x ⊗ x ⊗ x ⊗ x

-- sgp4init 3031, sgp4 3347; pow(x, x2o3) is `pow23 x`, which has no use for it
unfoldable pub x2o3 : Float
x2o3 = dec 2 0 ⊘ dec 3 0

-- sgp4 3350, in km/s
unfoldable pub vkmpersec : Float
vkmpersec = radiusearthkm ⊗ xke ⊘ dec 60 0
