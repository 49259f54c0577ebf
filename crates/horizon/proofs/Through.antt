-- What is seen through the Greenwich angle, where there is one.
use Prim.Native.Nat.{ℕ}
use mathlib.Core.Path.{◌≡◌, refl, ap, ◌∙◌}
use mathlib.Core.Bool.{Bool, true, false, cond}
use lib.Ieee.{Float}
use Rattle.std.specs.Prelude.{None, Option, Some}
use Rattle.instant.specs.declared.Radians.{Radians}
use Rattle.instant.specs.Calendar.{in_calendar}
use Rattle.instant.specs.Greenwich.{greenwich_of, greenwich_at}

unfoldable pub through : {A : Type 0} → (Float → A) → A → Option Radians → A
through f d (Some a) = f a.0
through f d None = d

by : {A : Type 0} (f : Float → A) (d : A) (x : Float) (b : Bool) → through f d (cond b (Some (record { 0 = x })) None) ≡ cond b (f x) d
unfolding through
by f d x true = refl
by f d x false = refl

pub throughout : {A : Type 0} (f : Float → A) (d : A) (t : ℕ) (a : Option Radians) → a ≡ greenwich_at t → through f d a ≡ cond (in_calendar t) (f (greenwich_of t)) d
unfolding greenwich_at
throughout f d t a e = ap (through f d) e ∙ by f d (greenwich_of t) (in_calendar t)
