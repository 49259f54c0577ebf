use mathlib.Core.Path.{◌≡◌, refl}
use mathlib.Core.Bool.{true, false, ◌&&◌}
use lib.Ieee.{Float, nan, inf, fin, neg, div, lt}
use Rattle.floats.specs.Notation.{finite}
use Rattle.floats.proofs.Literals.{literal}
use Rattle.floats.proofs.is_finite.Goals as goal

is_finite : (x : Float) → (lt x (inf false) && lt (inf true) x) ≡ finite x
unfolding lt finite
is_finite nan = refl
is_finite (inf true) = refl
is_finite (inf false) = refl
is_finite (fin s m e) = refl

pub returns : goal.returns
unfolding div literal neg
returns c = is_finite c.args.x
