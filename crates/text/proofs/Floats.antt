-- A float that equals itself is no NaN, and only a NaN does not.
use Prim.Native.Nat.{ℕ, ◌*◌}
use mathlib.Core.Path.{◌≡◌, refl, sym, ◌∙◌}
use mathlib.Core.Bool.{Bool, true, false, not}
use lib.Dec.{T}
use lib.Ieee.{Float, nan, inf, fin, is_nan, eq, level, up, down, to_bits}
use borrow.Author.Tests.{eq-eqb}
use Rattle.text.specs.Output.{bytes, glyph, places, pattern}

level_same : (s : Bool) (n : ℕ) → level s n s n ≡ true
level_same true n = rw (eq-eqb n n refl)
level_same false n = rw (eq-eqb n n refl)

itself : (x : Float) → eq x x ≡ not (is_nan x)
unfolding eq is_nan
itself nan = refl
itself (inf true) = refl
itself (inf false) = refl
itself (fin s m e) = level_same s (m * up e * down e)

pub number : (x : Float) → eq x x ≡ true → T (not (is_nan x))
number x h = rw (sym (itself x) ∙ h) tt

pub no_number : (x : Float) → eq x x ≡ false → bytes "7ff8000000000000" ≡ pattern x
unfolding pattern places glyph to_bits is_nan
no_number x h = only x (sym (itself x) ∙ h)
  where
    only : (x : Float) → not (is_nan x) ≡ false → bytes "7ff8000000000000" ≡ pattern x
    only nan h = refl
    only (inf s) h = cc
    only (fin s m e) h = cc
