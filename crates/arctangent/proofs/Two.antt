-- An ordinary point's steps come to its arctangent.
use mathlib.Core.Path.{◌≡◌, refl, sym, ap, ◌∙◌}
use mathlib.Core.Bool.{Bool, true, false, cond, not, ◌&&◌}
use Prim.Native.Nat.{ℕ}
use native.Mathlib.Omega.{arith}
use lib.Ieee.{Float, nan, lt, eq}
use Rattle.floats.specs.Magnitude.{abs_of}
use Rattle.floats.specs.Notation.{◌⊖◌, ◌⊘◌, dec, half_pi, finite}
use Rattle.arctangent.specs.Angle.{arctan, quarter, placed, atan2_of}
use Rattle.arctangent.specs.Two.{ordinary, tangent, quarter_of}

quarters : (b : Bool) (p q : Float) → cond b (half_pi ⊖ arctan p) (arctan q) ≡ cond b (half_pi ⊖ arctan (cond b p q)) (arctan (cond b p q))
quarters true p q = refl
quarters false p q = refl

pub in_quarter : (ay ax : Float) → quarter_of ay ax (arctan (tangent ay ax)) ≡ quarter ay ax
unfolding quarter_of tangent quarter
in_quarter ay ax = sym (quarters (lt ax ay) (ax ⊘ ay) (ay ⊘ ax))

no : true ≡ false → ⊥
no e = let z : ◌≡◌ {A = ℕ} 0 1 = ap (λ (b : Bool). cond b 0 1) e in omega arith

by : {A : Type 0} (f g o : Bool) (x y z : A) → f && g && not o ≡ true → cond (not (f && g)) x (cond o y z) ≡ z
by true true true x y z h = absurd (no (sym h))
by true true false x y z h = refl
by true false o x y z h = absurd (no (sym h))
by false g o x y z h = absurd (no (sym h))

pub of_ordinary : (y x : Float) → ordinary y x ≡ true → placed y x (quarter (abs_of y) (abs_of x)) ≡ atan2_of y x
unfolding ordinary atan2_of
of_ordinary y x h = sym (by (finite y) (finite x) (eq y (dec 0 0) && eq x (dec 0 0)) nan (dec 0 0) (placed y x (quarter (abs_of y) (abs_of x))) h)

pub both : (a b : Bool) → a && b ≡ true → (a ≡ true) × (b ≡ true)
both true b h = (refl, h)
both false b h = absurd (no (sym h))
