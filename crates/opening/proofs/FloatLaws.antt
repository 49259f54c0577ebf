-- A product or a difference is finite only where what it is made of is.
use mathlib.Core.Path.{◌≡◌, refl}
use mathlib.Core.Bool.{Bool, true, false, not, cond, beq}
use lib.Dec.{eqb}
use lib.Ieee.{Float, nan, inf, fin, unlike, mul, sub, add, neg}
use Rattle.elementary.specs.Notation.{◌⊗◌, ◌⊖◌, finite}

-- neither a NaN nor an infinity is finite
neither : (b s t : Bool) → finite (cond b nan (inf s)) ≡ true → finite (inf t) ≡ true
unfolding finite
neither true s t h = h
neither false s t h = h

nor : (b s t : Bool) → finite (cond b (inf s) nan) ≡ true → finite (inf t) ≡ true
unfolding finite
nor true s t h = h
nor false s t h = h

pub mul_left : (x y : Float) → finite (x ⊗ y) ≡ true → finite x ≡ true
unfolding mul finite
mul_left nan y h = h
mul_left (inf s) nan h = h
mul_left (inf s) (inf t) h = h
mul_left (inf s) (fin t n d) h = neither (eqb n 0) (unlike s t) s h
mul_left (fin s m e) y h = refl

pub mul_right : (x y : Float) → finite (x ⊗ y) ≡ true → finite y ≡ true
unfolding mul finite
mul_right x (fin t n d) h = refl
mul_right nan nan h = h
mul_right nan (inf t) h = h
mul_right (inf s) nan h = h
mul_right (inf s) (inf t) h = h
mul_right (fin s m e) nan h = h
mul_right (fin s m e) (inf t) h = neither (eqb m 0) (unlike s t) t h

pub sub_right : (x y : Float) → finite (x ⊖ y) ≡ true → finite y ≡ true
unfolding sub add neg finite
sub_right x (fin t n d) h = refl
sub_right nan nan h = h
sub_right nan (inf t) h = h
sub_right (inf s) nan h = h
sub_right (inf s) (inf t) h = nor (beq s (not t)) s t h
sub_right (fin s m e) nan h = h
sub_right (fin s m e) (inf t) h = h
