-- The side of a time, from its sign.
use mathlib.Core.Path.{◌≡◌, refl}
use mathlib.Core.Bool.{true, false}
use lib.IntN.{ℤ, pos, negsuc}
use Rattle.instant.proofs.Signed.{back}
use Rattle.resonance.specs.declared.place.Side.TheVariants.{Forward, Back}
use Rattle.resonance.specs.Time.{side_of}

pub side_back : (z : ℤ) → back z ≡ true → Back ≡ side_of z
side_back (pos n) h = cc
side_back (negsuc n) h = refl

pub side_forward : (z : ℤ) → back z ≡ false → Forward ≡ side_of z
side_forward (pos n) h = refl
side_forward (negsuc n) h = cc
