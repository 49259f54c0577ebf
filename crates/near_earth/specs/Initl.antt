-- 002's initl (lines 2806-2860): the mean motion and the semi-major axis recovered. Definitions only.
-- Left out: ainv, which nothing reads, and gsto, which is `gstime` of the epoch.
use Rattle.std.specs.Prelude.{Bool, ◌&&◌, ◌||◌, Float}
use Rattle.std.specs.Float.Ieee.{neg, le}
use Rattle.elementary.specs.Notation.{◌⊕◌, ◌⊖◌, ◌⊗◌, ◌⊘◌, dec, two_pi}
use Rattle.elementary.specs.Root.{sqrt_of}
use Rattle.elementary.specs.Power.{pow23}
use Rattle.elementary.specs.Trig.{sin_of, cos_of}
use Rattle.wgs72.specs.Getgravconst.{xke, j2}
use Rattle.near_earth.specs.declared.parts.Initl.{Initl}

-- 2834-2845: un-kozai the mean motion
unfoldable pub unkozai : Float → Float → Float → Float → Float → Float
unkozai xno ak cosio2 rteosq omeosq =
    let d1 = dec 75 2 ⊗ j2 ⊗ (dec 3 0 ⊗ cosio2 ⊖ dec 1 0) ⊘ (rteosq ⊗ omeosq) in
    let del = d1 ⊘ (ak ⊗ ak) in
    let adel = ak ⊗ (dec 1 0 ⊖ del ⊗ del ⊖ del ⊗ (dec 1 0 ⊘ dec 3 0 ⊕ dec 134 0 ⊗ del ⊗ del ⊘ dec 81 0)) in
    let del = d1 ⊘ (adel ⊗ adel) in
    xno ⊘ (dec 1 0 ⊕ del)

-- 2826-2854, of ecco, inclo and the mean motion handed in
unfoldable pub initl : Float → Float → Float → Initl
initl ecco inclo xno =
    let eccsq = ecco ⊗ ecco in
    let omeosq = dec 1 0 ⊖ eccsq in
    let rteosq = sqrt_of omeosq in
    let cosio = cos_of inclo in
    let cosio2 = cosio ⊗ cosio in
    let ak = pow23 (xke ⊘ xno) in
    let n = unkozai xno ak cosio2 rteosq omeosq in
    let ao = pow23 (xke ⊘ n) in
    let sinio = sin_of inclo in
    let po = ao ⊗ omeosq in
    let con42 = dec 1 0 ⊖ dec 5 0 ⊗ cosio2 in
    let con41 = neg con42 ⊖ cosio2 ⊖ cosio2 in
    let posq = po ⊗ po in
    let rp = ao ⊗ (dec 1 0 ⊖ ecco) in
    record { no = n; ao = ao; con41 = con41; con42 = con42; cosio = cosio; cosio2 = cosio2; eccsq = eccsq; omeosq = omeosq; posq = posq; rp = rp; rteosq = rteosq; sinio = sinio }

-- sgp4init 3054: the guard of all that follows initl
unfoldable pub guard : Initl → Bool
guard i = le (dec 0 0) i.omeosq || le (dec 0 0) i.no

-- sgp4init 3132, which stands under that guard: a period of 225 minutes or more is deep space
unfoldable pub deep_space : Initl → Bool
deep_space i = guard i && le (dec 225 0) (two_pi ⊘ i.no)
