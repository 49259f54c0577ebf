-- At set-up 002 calls dpper with init 'y', which changes nothing: the code of a caller leaves that call out.
use mathlib.Core.Path.{◌≡◌, refl}
use mathlib.Core.Bool.{true}
use Rattle.instant.specs.declared.Minutes.{Minutes}
use Rattle.satellite.specs.declared.LunarSolar.{LunarSolar}
use Rattle.periodics.specs.declared.dpper.Perturbed.{Perturbed}
use Rattle.periodics.specs.Dpper.{dpper_of}

pub set_up_unchanged : (ls : LunarSolar) (t : Minutes) (x : Perturbed) → dpper_of true ls t x ≡ x
unfolding dpper_of
set_up_unchanged ls t x = refl
