-- 002's getgravconst at WGS-72 (lines 3718-3727); document 01, "Numbers the model rests on". Definitions only.
-- Left out: tumin, which nothing reads.
use Rattle.std.specs.Prelude.{Float}
use Rattle.std.specs.Float.Ieee.{neg}
use Rattle.elementary.specs.Notation.{◌⊗◌, ◌⊘◌, dec}
use Rattle.elementary.specs.Root.{sqrt_of}

-- in km³/s²
abbrev pub mu : Float
mu = dec 3986008 1

-- in km
abbrev pub radiusearthkm : Float
radiusearthkm = dec 6378135 3

unfoldable pub xke : Float
xke = dec 60 0 ⊘ sqrt_of (radiusearthkm ⊗ radiusearthkm ⊗ radiusearthkm ⊘ mu)

abbrev pub j2 : Float
j2 = dec 1082616 9

abbrev pub j3 : Float
j3 = neg (dec 253881 11)

abbrev pub j4 : Float
j4 = neg (dec 165597 11)

unfoldable pub j3oj2 : Float
j3oj2 = j3 ⊘ j2
