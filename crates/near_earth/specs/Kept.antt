-- Three numbers that serve speed alone: 002's sgp4 computes them at every time and always the same, here set-up keeps them. Definitions only.
-- `kept_as_computed` of proofs/Kept: what set-up keeps is `AsComputed`.
use Rattle.std.specs.Prelude.{◌≡◌}
use Rattle.elementary.specs.Notation.{◌⊘◌}
use Rattle.elementary.specs.Power.{pow23}
use Rattle.elementary.specs.Trig.{sin_of, cos_of}
use Rattle.wgs72.specs.Getgravconst.{xke}
use Rattle.satellite.specs.declared.Kept.{Kept}
use Rattle.satellite.specs.declared.NearEarth.{NearEarth}
use Rattle.near_earth.specs.declared.parts.Initl.{Initl}

-- initl has computed them already
unfoldable pub kept : Initl → Kept
kept i = record { ao = i.ao; sinio = i.sinio; cosio = i.cosio }

-- sgp4's lines 3420, 3443 and 3444, where nm is satrec.no and inclm is satrec.inclo
pub record AsComputed (n : NearEarth) : Type 0 where
  pub axis : n.kept.ao ≡ pow23 (xke ⊘ n.elements.no)
  pub sine : n.kept.sinio ≡ sin_of n.elements.inclo
  pub cosine : n.kept.cosio ≡ cos_of n.elements.inclo
